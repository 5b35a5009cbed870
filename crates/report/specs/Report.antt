-- The program's text, from the bytes of its input. Assumes nothing: these are definitions.
use Rattle.std.specs.Prelude.{cond, List, ℕ, ◌+◌, ◌*◌, eqb, length, replicate}
use Rattle.sheet.specs.Limits.{most_sites}
use Rattle.sheet.specs.Sheet.{sheet_in}
use Rattle.labelling.specs.Entry.{make_fault, make_answer}
use Rattle.refusals.specs.Input.{is_unfit}
use Rattle.report.specs.Input.{words_in}
use Rattle.report.specs.Lines.{refused_line, layout_text}

-- what the layout maker says of a sheet
unfoldable pub sheet_text : (sheet work answer : List ℕ) → List ℕ
sheet_text ws k o = cond (eqb (make_fault ws k o) 0) (layout_text (sheet_in ws) (make_answer ws k o)) (refused_line (make_fault ws k o))

-- with 16,384 work words and 33 answer words, as many as the most sites need
abbrev pub work_words : ℕ
work_words = 16384

abbrev pub answer_words : ℕ
answer_words = 33

unfoldable pub program_sheet_text : (sheet : List ℕ) → List ℕ
program_sheet_text ws = sheet_text ws (replicate work_words 0) (replicate answer_words 0)

unfoldable pub program_text : (bytes : List ℕ) → List ℕ
program_text bs = cond (is_unfit (length bs)) (refused_line 12) (program_sheet_text (words_in bs))

-- A BOUND on the text's length, so that an area of as many bytes holds every text: a first line of at most 36 bytes (its words and two
-- numbers of at most ten digits), and for each site a line of at most 50 (its words and three such numbers)
abbrev pub first_line_bound : ℕ
first_line_bound = 36

abbrev pub site_line_bound : ℕ
site_line_bound = 50

abbrev pub text_bound : ℕ
text_bound = first_line_bound + most_sites * site_line_bound
