-- The numbers of the sheet without the bounds that can't bind. Assumes nothing.
use mathlib.Core.Path.{◌≡◌, refl, sym, ap, ap₂, ◌∙◌}
use mathlib.Core.List.{List, [], ◌∷◌, map}
use Prim.Native.Nat.{ℕ, ◌+◌, ◌<◌, ◌≤◌}
use native.Mathlib.Numerals.{add-one}
use native.Mathlib.Omega.{arith}
use lib.ListN.{length, get_or, take, drop, set, length-map, drop_of_length-le}
use lib.Seq.{drop-cons, length-take-le}
use Rattle.std.proofs.lemmas.List.{get_or-take, get_or-drop}
use Rattle.lists.proofs.Grown.{Grown, grown-more, grown-end}
use Rattle.sheet.specs.Sheet.{Colour, sheet_in}
use Rattle.sheet.specs.Binding.{binding_bound, binding_only, binding_colours, with_colours}
use Rattle.sheet.proofs.Accepted.{unrefused}
use Rattle.sheet.proofs.Binding.{sheet-binding, length-binding}
use Rattle.decoding.specs.declared.Numbers.{Numbers}
use Rattle.decoding.specs.Decoding.{ColourNumbers, no_colour_numbers, colour_numbers, colour_array, numbers_by, SheetRead}
use Rattle.decoding.proofs.Fronts.{kinds-are}
use Rattle.decoding.proofs.Records.{colour-front, colour-rest, colour-join}

-- a colour without its bound, if that can't bind
abbrev pub kept_colour : ColourNumbers → ColourNumbers
kept_colour k = record { bound = binding_bound k.bound k.sites; sites = k.sites }

kept-colours : (ks : List Colour) → map kept_colour (map colour_numbers ks) ≡ map colour_numbers (binding_colours ks)
unfolding binding_colours
kept-colours [] = refl
kept-colours (k ∷ ks) = ap (λ (l : List ColourNumbers). kept_colour (colour_numbers k) ∷ l) (kept-colours ks)

-- THE LOOP: so many of an array's colours are kept, from the first on
abbrev pub IsKept : (old out : List ColourNumbers) → (kinds c : ℕ) → Type 0
IsKept old out n c = Grown old out (map kept_colour (take n old)) (map kept_colour (drop c (take n old))) c

-- what was not reached stands
unreached : (old out : List ColourNumbers) (c : ℕ) → drop c out ≡ drop c old → get_or out c no_colour_numbers ≡ get_or old c no_colour_numbers
unreached old out c e =
    let z : c + 0 ≡ c = omega arith in
    ap (λ (i : ℕ). get_or out i no_colour_numbers) (sym z) ∙ sym (get_or-drop c out 0 no_colour_numbers) ∙ ap (λ (l : List ColourNumbers). get_or l 0 no_colour_numbers) e ∙
    get_or-drop c old 0 no_colour_numbers ∙ ap (λ (i : ℕ). get_or old i no_colour_numbers) z

pub kept-more : (old out : List ColourNumbers) (n c : ℕ) (v : ColourNumbers) → n ≤ length old → c < n → v ≡ kept_colour (get_or out c no_colour_numbers) → IsKept old out n c → IsKept old (set out c v) n (c + 1)
kept-more old out n c v l h e g =
    let long = length-take-le n old l in
    let low : c < length (take n old) = omega arith in
    let same : v ≡ kept_colour (get_or (take n old) c no_colour_numbers) = e ∙ ap kept_colour (unreached old out c g.kept ∙ sym (get_or-take n old c no_colour_numbers h)) in
    let next : map kept_colour (drop c (take n old)) ≡ v ∷ map kept_colour (drop (c + 1) (take n old)) = rw (add-one c, drop-cons (take n old) c no_colour_numbers low, same) refl in
    grown-more old out (map kept_colour (take n old)) (map kept_colour (drop c (take n old))) (map kept_colour (drop (c + 1) (take n old))) c v (omega (arith, g.long)) next g

-- at its end, of an array that holds a sheet's colours
pub kept-all : (ks : List Colour) (out : List ColourNumbers) (c : ℕ) → length ks ≤ c → IsKept (colour_array ks) out (length ks) c → out ≡ colour_array (binding_colours ks)
kept-all ks out c h g =
    let front = colour-front ks in
    let past : length (map colour_numbers ks) ≤ c = omega (arith, length-map ks colour_numbers) in
    let none : map kept_colour (drop c (take (length ks) (colour_array ks))) ≡ [] = rw (front, drop_of_length-le (map colour_numbers ks) past) refl in
    let long : length (map kept_colour (map colour_numbers ks)) ≡ length ks = length-map (map colour_numbers ks) kept_colour ∙ length-map ks colour_numbers in
    grown-end _ out _ _ c none g ∙ rw (front, long, colour-rest ks, kept-colours ks) (colour-join (binding_colours ks) (length ks) (sym (length-binding ks)))

-- THE NUMBERS with other colours
abbrev pub with_list : Numbers → List ColourNumbers → Numbers
with_list d ks = record { head = d.head; slots = d.slots; kinds = d.kinds; sites = d.sites; heights = d.heights; colour_list = ks; site_list = d.site_list }

-- with the bounds that can bind alone
pub numbers-kept : {d : Numbers} (r : SheetRead d) {out : List ColourNumbers} {c : ℕ} → d.kinds ≤ c → IsKept d.colour_list out d.kinds c → with_list d out ≡ numbers_by (sheet_in (binding_only r.words))
numbers-kept {d} r {out} {c} h g =
    let s = sheet_in r.words in
    let cs = s.colours in
    let lists : d.colour_list ≡ colour_array cs = ap (λ (z : Numbers). z.colour_list) r.numbers in
    let b : out ≡ colour_array (binding_colours cs) = kept-all cs out c (omega (arith, kinds-are r)) (rw (lists, kinds-are r) at g) in
    let k : numbers_by (with_colours s (binding_colours cs)) ≡ with_list (numbers_by s) (colour_array (binding_colours cs)) = rw (length-binding cs) refl in
    ap₂ with_list r.numbers b ∙ sym k ∙ sym (ap numbers_by (sheet-binding r.words (unrefused r.words r.accepted).head))
