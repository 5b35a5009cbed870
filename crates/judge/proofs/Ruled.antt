-- What the rule tests find on the decoded numbers of an accepted sheet with a layout is the least broken rule. Assumes nothing.
use mathlib.Core.Path.{◌≡◌, refl, ap, ◌∙◌}
use mathlib.Core.Bool.{true}
use mathlib.Core.List.{List}
use Prim.Native.Nat.{ℕ, ◌≤◌}
use lib.ListN.{length, get_or, take}
use Rattle.sheet.specs.Limits.{most_slots, most_colours}
use Rattle.sheet.specs.Sheet.{Sheet, sheet_in, sheet_fault}
use Rattle.sheet.proofs.Accepted.{sound}
use Rattle.labelling.specs.Layout.{ties_in, layout_body, layout_ties, is_layout, broken_by}
use Rattle.labelling.proofs.Words.{formed, length-ties_in, ties-low}
use Rattle.decoding.specs.Decoding.{head_by, numbers_by, bounds_of, bounds_in, xs_in, ys_in, site_colours_in, site_array, SheetRead}
use Rattle.decoding.specs.declared.Numbers.{Numbers}
use Rattle.decoding.proofs.Fronts.{few, bounds}
use Rattle.decoding.proofs.Records.{bounds-front}
use Rattle.decoding.proofs.Places.{decoded}
use Rattle.lists.specs.Arrays.{padded}
use Rattle.words.specs.declared.tied.Head.{Head}
use Rattle.layouts.specs.Model.{broken_on}
use Rattle.judge.specs.Opened.{SitesRead}
use Rattle.layouts.proofs.RulesKept.{broken-is}
use Rattle.layouts.proofs.Fitting.{long}

module _ (ss : List ℕ) (ok : sheet_fault ss ≡ 0) where
  -- so few colours as the array has places
  pub kinds-few : {d : Numbers} → d ≡ numbers_by (sheet_in ss) → d.kinds ≤ most_colours
  kinds-few {d} e = let read : SheetRead d = record { words = ss; accepted = ok; numbers = e } in (few read).1

module _ (ss ls : List ℕ) (ok : sheet_fault ss ≡ 0) (form : is_layout (sheet_in ss) ls ≡ true) where
  abbrev s : Sheet
  s = sheet_in ss

  ruled : (h : Head) (w r : ℕ) (hs bs xs ys cs ws : List ℕ) →
      h ≡ head_by s → w ≡ get_or ls 0 0 → hs ≡ padded most_slots s.slots → bs ≡ bounds_of s.colours → xs ≡ xs_in (site_array s.sites) → ys ≡ ys_in (site_array s.sites) →
      cs ≡ site_colours_in (site_array s.sites) → ws ≡ layout_body ls → r ≡ broken_on h w hs bs xs ys cs (ties_in ws) (length ws) → r ≡ broken_by s ls
  ruled h w r hs bs xs ys cs ws eh ew es eb ex ey ec et e =
      let q : r ≡ broken_on (head_by s) (get_or ls 0 0) (padded most_slots s.slots) (bounds_of s.colours) (xs_in (site_array s.sites)) (ys_in (site_array s.sites)) (site_colours_in (site_array s.sites)) (layout_ties ls) (length (layout_body ls)) =
      e ∙ rw (eh, ew, es, eb, ex, ey, ec, et) refl in
      q ∙ ap (broken_on (head_by s) (get_or ls 0 0) (padded most_slots s.slots) (bounds_of s.colours) (xs_in (site_array s.sites)) (ys_in (site_array s.sites)) (site_colours_in (site_array s.sites)) (layout_ties ls)) (long ss ls ok form) ∙
      broken-is s _ _ _ _ (decoded s most_slots) (layout_ties ls) (length-ties_in (layout_body ls) ∙ long ss ls ok form) (ties-low s (layout_body ls) (formed s ls form).ties) (sound ss ok).inside ls refl

  -- on the sites that were opened
  pub rule-found : {d : Numbers} {h : Head} {hs us vs cs ts : List ℕ} (w r : ℕ) → d ≡ numbers_by s → SitesRead d ls h hs us vs cs ts → w ≡ get_or ls 0 0 →
      r ≡ broken_on h w hs (bounds_in (take d.kinds d.colour_list)) us vs cs (ties_in ts) (length ts) → r ≡ broken_by s ls
  rule-found {d} w r e t ew q =
      let read : SheetRead d = record { words = ss; accepted = ok; numbers = e } in
      ruled _ w r _ _ _ _ _ _ (t.head ∙ ap (λ (z : Numbers). z.head) e) ew (t.heights ∙ ap (λ (z : Numbers). z.heights) e) (bounds-front d.kinds d.colour_list ∙ (bounds read).0)
      (t.xs ∙ ap (λ (z : Numbers). xs_in z.site_list) e) (t.ys ∙ ap (λ (z : Numbers). ys_in z.site_list) e) (t.colours ∙ ap (λ (z : Numbers). site_colours_in z.site_list) e) t.ties q
