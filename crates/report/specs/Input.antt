-- The words of an input. Assumes nothing: these are definitions.
use Rattle.std.specs.Prelude.{List, [], ◌∷◌, ℕ, ◌+◌, ◌*◌}
use Rattle.sheet.specs.Limits.{byte_top}

-- the word that four bytes make, the lowest first
abbrev pub word_from : (a b c d : ℕ) → ℕ
word_from a b c d = a + byte_top * (b + byte_top * (c + byte_top * d))

-- the input's words: four bytes each
unfoldable pub words_in : (bytes : List ℕ) → List ℕ
words_in [] = []
words_in (a ∷ []) = []
words_in (a ∷ b ∷ []) = []
words_in (a ∷ b ∷ c ∷ []) = []
words_in (a ∷ b ∷ c ∷ d ∷ bs) = word_from a b c d ∷ words_in bs
