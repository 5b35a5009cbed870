-- What the maker's branches have to show, from what the reader says. Assumes nothing.
use mathlib.Core.Path.{◌≡◌, refl, sym, ap, subst, ◌∙◌}
use mathlib.Core.Bool.{Bool, true, false}
use mathlib.Core.List.{List, [], ◌∷◌}
use Prim.Native.Nat.{ℕ, suc, ◌+◌, ◌≤◌, ◌<◌}
use native.Mathlib.Omega.{arith}
use lib.ListN.{length, get_or, take}
use borrow.Author.Tests.{lt-ltb}
use Rattle.lists.proofs.Tests.{and-of}
use Rattle.sheet.specs.Limits.{most_budgets, word_top}
use Rattle.sheet.specs.Sheet.{sheet_in, sheet_fault, product_of, work_for}
use Rattle.sheet.specs.Binding.{binding_only}
use Rattle.labelling.specs.Entry.{make_fault, make_work, make_answer, zeroed}
use Rattle.labelling.specs.Promise.{are_words, TakesSheet}
use Rattle.labelling.proofs.Maker.{Result, Serves, refused-sheet, refused-side, refused-work, refused-out}
use Rattle.labelling.proofs.Kept.{areas-kept}
use Rattle.labelling.proofs.Binding.{work-less, fault-binding, area-binding, work-zeroed, takes-binding}
use Rattle.faults.specs.Faults.{maker_fault}
use Rattle.faults.proofs.Faults.{fault-sheet, fault-side, fault-work, fault-out, fault-none, by-fault, no-fault}
use Rattle.reader.specs.declared.Sizes.{Sizes}
use Rattle.reader.specs.Read.{read_post}
use Rattle.reader.proofs.Reading.{reading, refusal_is}
use Rattle.sizes.specs.Work.{work_of}
use Rattle.onesided.specs.Laying.{TakesOneSided, MadeBy}
use Rattle.decoding.proofs.Fronts.{bounds-fit, product_is, same-sheet}
use Rattle.sizes.specs.Budgets.{product_by}
use Rattle.decoding.specs.declared.Numbers.{Numbers}
use Rattle.decoding.specs.Decoding.{bounds_in, numbers_by, SheetRead}
use Rattle.maker.specs.Taken.{Taken, BindingAlone}

-- a list of 32-bit numbers
pub are-words : (ws : List ℕ) → ((i : ℕ) → get_or ws i 0 < word_top) → are_words ws ≡ true
unfolding are_words
are-words [] h = refl
are-words (w ∷ ws) h = and-of _ _ (lt-ltb w word_top (h 0)) (are-words ws (λ i. h (suc i)))

-- the three equations of a call, from its outcome
pub call : (ws k o : List ℕ) (f r : ℕ) → r ≡ f → Result ws k o f o k → (r ≡ make_fault ws k o) × ((k ≡ make_work ws k o) × (o ≡ make_answer ws k o))
call ws k o f r e q = (e ∙ sym q.fault-is, (sym q.work-is, sym q.out-is))

module _ (ws k o : List ℕ) (r : Sizes) (e : r ≡ read_post ws) where
  unread : (r.refusal ≡ 0 → ⊥) → Result ws k o r.refusal o k
  unread n =
      let f = refusal_is ws r e in subst (λ (a : ℕ). Result ws k o a o k) (sym f) (refused-sheet ws k o (positive r.refusal (sheet_fault ws) n f))
    where
      positive : (a b : ℕ) → (a ≡ 0 → ⊥) → a ≡ b → 0 < b
      positive a b n e = omega arith

  module _ (two : Bool) (side : two ≡ (sheet_in ws).is_two_sided) where
    ended : r.refusal ≡ 0 → two ≡ true → Result ws k o 18 o k
    ended z s = let g = reading ws r e z in refused-side ws k o g.accepted (sym side ∙ s)

    short : r.refusal ≡ 0 → two ≡ false → length k < r.work → Result ws k o 8 o k
    short z s h = let g = reading ws r e z in refused-work ws k o g.accepted (sym side ∙ s) (omega (arith, g.work))

    narrow : r.refusal ≡ 0 → two ≡ false → r.work ≤ length k → length o < r.n + 1 → Result ws k o 9 o k
    narrow z s w h = let g = reading ws r e z in refused-out ws k o g.accepted (sym side ∙ s) (omega (arith, g.work)) (omega (arith, g.sites))

    module _ (f : ℕ) (q : f ≡ maker_fault r.refusal two r.work r.n (length k) (length o)) where
      -- refused before it is laid out
      pub refused : (f ≡ 0 → ⊥) → (f ≡ make_fault ws k o) × ((k ≡ make_work ws k o) × (o ≡ make_answer ws k o))
      refused n =
          by-fault r.refusal two r.work r.n (length k) (length o)
          (λ z. call ws k o r.refusal f (q ∙ fault-sheet r.refusal two r.work r.n (length k) (length o) z) (unread z))
          (λ z s. call ws k o 18 f (q ∙ fault-side r.refusal two r.work r.n (length k) (length o) z s) (ended z s))
          (λ z s w. call ws k o 8 f (q ∙ fault-work r.refusal two r.work r.n (length k) (length o) z s w) (short z s w))
          (λ z s w h. call ws k o 9 f (q ∙ fault-out r.refusal two r.work r.n (length k) (length o) z s w h) (narrow z s w h))
          (λ z s w h. absurd (n (q ∙ fault-none r.refusal two r.work r.n (length k) (length o) z s w h)))

      -- or taken, the work words as they were read
      pub taken : ((i : ℕ) → get_or ws i 0 < word_top) → f ≡ 0 → TakesSheet ws k o × (r.work ≡ work_for (sheet_in ws))
      taken u v =
          let t = no-fault r.refusal two r.work r.n (length k) (length o) (sym q ∙ v) in
          let g = reading ws r e t.0 in
          ((are-words ws u, g.accepted, omega (arith, g.work, t.2), omega (arith, g.sites, t.3), sym side ∙ t.1), g.work)

-- THE SHEET WITHOUT THE BOUNDS THAT CAN'T BIND in place of the sheet; b: its numbers
module _ {d b : Numbers} {a : ℕ} {k o : List ℕ} (t : Taken d a k o) (e : BindingAlone d b) where
  abbrev ls : List ℕ
  ls = binding_only t.read.words

  pub kept-is : b ≡ numbers_by (sheet_in ls)
  kept-is = e t.read.words t.read.accepted t.read.numbers

  pub takes-kept : TakesSheet ls k o
  takes-kept = takes-binding t.read.words k o t.takes

  abbrev pub read_kept : SheetRead b
  read_kept = record { words = ls; accepted = takes-kept.1; numbers = kept-is }

  module _ {p : ℕ} (c : p ≡ product_by (take b.kinds (bounds_in b.colour_list))) where
    pub few-budgets : p ≤ most_budgets
    few-budgets = omega (arith, c, (bounds-fit read_kept).2)

    -- p is P
    product-kept : p ≡ product_of (sheet_in ls).colours
    product-kept = c ∙ product_is read_kept

    pub takes-numbers : TakesOneSided b p k o
    takes-numbers = record { read = read_kept; takes = takes-kept; product = product-kept }

    -- n: the words of its table; of any words that have its numbers
    module _ {n : ℕ} (w : n ≡ work_of false b.slots b.kinds b.sites p) where
      words-kept : n ≡ work_for (sheet_in ls)
      words-kept = w ∙ (λ i. work_of (sym takes-kept.4 i) (kept-is i).slots (kept-is i).kinds (kept-is i).sites (product-kept i))

      pub needs-less : {f : ℕ} {l m : List ℕ} → MadeBy b k o f l m → (n ≤ a) × (a ≤ length l)
      needs-less x =
          let y = x ls takes-kept kept-is in
          let z = t.words-needed in
          (omega (arith, words-kept, z, work-less t.read.words t.read.accepted), omega (arith, z, t.takes.2, ap length y.work-is, (areas-kept.1 ls k o).3))

      -- the call, from the call on the sheet without them
      pub laid : {f : ℕ} {l m c : List ℕ} → MadeBy b k o f l c → m ≡ zeroed n a l → MadeBy d k o f m c
      laid x z ws u v =
          let y = x (binding_only ws) (takes-binding ws k o u) (e ws u.1 v) in
          let serves : Serves ws k o = (u.1, u.2, u.3, u.4) in
          record {
            fault-is = y.fault-is ∙ fault-binding ws k o serves;
            work-is = z ∙ ap₃ (words-kept ∙ ap work_for (same-sheet read_kept (binding_only ws) (e ws u.1 v))) (t.words-needed ∙ ap work_for (same-sheet t.read ws v)) y.work-is ∙ work-zeroed ws k o serves;
            out-is = y.out-is ∙ area-binding ws k o serves;
          }
        where
          ap₃ : {a b c d : ℕ} {u v : List ℕ} → a ≡ b → c ≡ d → u ≡ v → zeroed a c u ≡ zeroed b d v
          ap₃ x y z = rw (x, y, z) refl
