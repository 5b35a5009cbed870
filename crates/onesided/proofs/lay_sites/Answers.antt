use Rattle.lists.specs.Arrays.{padded}
use Rattle.sheet.specs.Limits.{most_colours}
use Rattle.sheet.specs.Sheet.{sheet_in}
use Rattle.decoding.specs.declared.Numbers.{Numbers}
use Rattle.decoding.specs.Decoding.{bounds_in, sheet_by}
use Rattle.decoding.proofs.Fronts.{few, heights, bounds, bounds-fit, same-sheet, stands}
use Rattle.onesided.proofs.Parts.{measures-are, radices, draws, by-words}
use Rattle.arrays.specs.Arrays.{radices_by, draws_by}
use Rattle.arrays.specs.Given.{given}
use Rattle.onesided.specs.Laying.{TakesOneSided, RankedSites, arrays_of}
use Rattle.onesided.proofs.Facts.{arrays-are, arrays-held, lays-is, with-splits}
use Rattle.onesided.proofs.Called.{laid-is}
use mathlib.Core.Path.{◌≡◌, refl, ap, ◌∙◌}
use mathlib.Core.List.{List, []}
use Prim.Native.Nat.{ℕ}
use native.Mathlib.Omega.{arith}
use lib.ListN.{take}
use Rattle.arrays.specs.Budgets.{Within}
use Rattle.sheet.specs.Limits.{most_budgets}
use Rattle.arrays.proofs.Listed.{within-all}
use Rattle.optimum.proofs.Pairs.{zeros}
use Rattle.onesided.proofs.lay_sites.Goals.{After-list_splits}
use Rattle.onesided.proofs.lay_sites.Goals as goal

-- THE ARRAYS that are made of the numbers, with the sites by rank, are the sheet's
arrays : {d : Numbers} {p : ℕ} {k o : List ℕ} (t : TakesOneSided d p k o) {bs rs ds xs ys cs os : List ℕ}
    → bs ≡ bounds_in d.colour_list → rs ≡ padded most_colours (radices_by (take d.kinds bs)) → ds ≡ padded most_colours (draws_by 1 (take d.kinds bs))
    → RankedSites (sheet_by d) xs ys cs os
    → given (record { head = d.head; colours = d.kinds; budgets = p }) (take d.slots d.heights) (take d.kinds bs)
    (take d.kinds rs) (take d.kinds ds) xs ys cs os [] [] ≡ arrays_of (sheet_in t.read.words)
arrays {d} t b x y r =
    let p = t.read in
    arrays-are _ (measures-are p t.product) (heights p).0 (ap (take d.kinds) b ∙ (bounds p).0) (radices p (rw b at x)).0 (draws p (rw b at y)).0 (by-words p r)

pub overflow_cast-measures : goal.overflow_cast-measures
overflow_cast-measures c = omega (arith, few c.requires.takes_one_sided.read)

pub slice_bounds-bounds-end : goal.slice_bounds-bounds-end
slice_bounds-bounds-end c = rw c.bounds-bounds.ensures (stands _ _ (bounds c.requires.takes_one_sided.read).1)

pub slice_bounds-bounds-end-2 : goal.slice_bounds-bounds-end-2
slice_bounds-bounds-end-2 c = rw c.bounds-bounds.ensures (bounds c.requires.takes_one_sided.read).1

pub radices_of-radices-requires : goal.radices_of-radices-requires
radices_of-radices-requires c =
    let b = bounds-fit c.requires.takes_one_sided.read in
    rw c.bounds-bounds.ensures (record { bounds_len_bound = b.0; by_index = b.1 })

pub draws_of-draws-requires : goal.draws_of-draws-requires
draws_of-draws-requires c =
    let b = bounds-fit c.requires.takes_one_sided.read in
    rw c.bounds-bounds.ensures (record { bounds_len_bound = b.0; by_index = b.1; bounds_bound = b.2 })

pub slice_bounds-radices-end : goal.slice_bounds-radices-end
slice_bounds-radices-end c = stands _ _ (radices c.requires.takes_one_sided.read (rw c.bounds-bounds.ensures at c.radices_of-radices.ensures)).1

pub slice_bounds-radices-end-2 : goal.slice_bounds-radices-end-2
slice_bounds-radices-end-2 c = (radices c.requires.takes_one_sided.read (rw c.bounds-bounds.ensures at c.radices_of-radices.ensures)).1

pub slice_bounds-draws-end : goal.slice_bounds-draws-end
slice_bounds-draws-end c = stands _ _ (draws c.requires.takes_one_sided.read (rw c.bounds-bounds.ensures at c.draws_of-draws.ensures)).1

pub slice_bounds-sheet-end-2 : goal.slice_bounds-sheet-end-2
slice_bounds-sheet-end-2 c = (draws c.requires.takes_one_sided.read (rw c.bounds-bounds.ensures at c.draws_of-draws.ensures)).1

pub list_splits-requires : goal.list_splits-requires
list_splits-requires c =
    let p = c.requires.takes_one_sided in
    let e = arrays p c.bounds-bounds.ensures c.radices_of-radices.ensures c.draws_of-draws.ensures c.requires.ranked_sites in
    ((arrays-held p.read.words p.takes.1 _ e).0.few_budgets, refl, refl)

-- THE LISTS of what may be taken are within bounds for all budgets, the sheet's and those past its last
pub lists-within : (c : After-list_splits) → Within most_budgets c.list_splits.new.parts c.list_splits.new.counts
lists-within c = within-all c.list_splits.ensures.listed.within (λ v l. c.list_splits.ensures.others v l ∙ zeros most_budgets v)

pub invariant_of-splits : goal.invariant_of-splits
invariant_of-splits c = record { within = c.list_splits.ensures.listed.within }

pub invariant_of-radices : goal.invariant_of-radices
invariant_of-radices c =
    let p = c.requires.takes_one_sided in
    let e = arrays p c.bounds-bounds.ensures c.radices_of-radices.ensures c.draws_of-draws.ensures c.requires.ranked_sites in
    record { divides = (arrays-held p.read.words p.takes.1 _ e).0.divides }

pub invariant_of-sheet : goal.invariant_of-sheet
invariant_of-sheet c =
    let p = c.requires.takes_one_sided in
    let e = arrays p c.bounds-bounds.ensures c.radices_of-radices.ensures c.draws_of-draws.ensures c.requires.ranked_sites in
    let h = arrays-held p.read.words p.takes.1 _ e in
    record { of_sheet = with-splits h.0 _ _; bounded = h.1; ranked = h.2; listed = c.list_splits.ensures.listed; all_listed = refl }

pub lay_ranked-requires : goal.lay_ranked-requires
lay_ranked-requires c =
    let p = c.requires.takes_one_sided in
    let e = arrays p c.bounds-bounds.ensures c.radices_of-radices.ensures c.draws_of-draws.ensures c.requires.ranked_sites in
    let l = lays-is p.read.words p.takes.1 _ _ _ e p.takes.4 p.takes.2 p.takes.3 in
    record { fits = l.fits; answer_fits = l.answer_fits }

pub returns : goal.returns
returns c =
    let a = c.args in
    let p = c.requires.takes_one_sided in
    let e = arrays p c.bounds-bounds.ensures c.radices_of-radices.ensures c.draws_of-draws.ensures c.requires.ranked_sites in
    let l = c.lay_ranked.ensures in
    λ ws t q.
    let m = laid-is ws a.work.now a.out.now t _ _ (e ∙ ap arrays_of (same-sheet p.read ws q)) refl in
    record { fault-is = l.value ∙ m.fault-is; work-is = l.work_after ∙ m.work-is; out-is = l.out_after ∙ m.out-is }
