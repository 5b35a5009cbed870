-- A label's numbers, counted site by site, are its own. Assumes nothing.
use mathlib.Core.Path.{◌≡◌, refl, ◌∙◌, ap, ap₂, fun_ext, sym}
use mathlib.Core.Bool.{Bool}
use mathlib.Core.List.{List}
use Prim.Native.Nat.{ℕ, suc, ◌+◌, ◌*◌, ◌≤◌, ◌<◌}
use native.Mathlib.Numerals.{add-one}
use native.Mathlib.Omega.{arith}
use lib.Dec.{eqb}
use lib.ListN.{length, get_or}
use Rattle.lists.proofs.Tests.{by-test}
use Rattle.sheet.specs.Limits.{most_sites, most_share, top_word}
use Rattle.sheet.specs.Sheet.{Sheet}
use Rattle.labelling.specs.Layout.{share_by, site_at, ties_in, layout_body, layout_ties}
use Rattle.labelling.specs.Counted.{sum_before}
use Rattle.labelling.specs.Labels.{sum_at, colour_before, share_at}
use Rattle.labelling.proofs.Distances.{share-le}
use Rattle.labelling.proofs.Labels.{sum-at-le}
use Rattle.words.specs.declared.tied.Head.{Head}
use Rattle.decoding.specs.Decoding.{sheet_by, LayoutRead, site_colours_in, ys_in}
use Rattle.decoding.specs.declared.Numbers.{Numbers}
use Rattle.layouts.specs.Model.{Low}
use Rattle.layouts.proofs.Fitting.{low_read}
use Rattle.layouts.proofs.Read.{decoded-read, sites_long, body-long, sites-few}
use Rattle.page.specs.declared.labels.Sums.{Sums}
use Rattle.judge.specs.Opened.{SitesRead}
use Rattle.page.specs.Labels.{with_site, sums_on, sums_at}

abbrev sums : (colour sites shares : ℕ) → Sums
sums c n l = record { colour = c; sites = n; shares = l }

module _ (h : Head) (k : ℕ) (hs ys cs js : List ℕ) where
  -- THE LOOP
  pub sums_none : sums 0 0 0 ≡ sums_on h k hs ys cs js 0
  unfolding sum_before colour_before
  sums_none = refl

  abbrev share : ℕ → ℕ
  share i = share_by h.charge (get_or hs (get_or js i 0) 0) (get_or ys i 0)

  -- one site more
  step : (i : ℕ) → with_site (sums_on h k hs ys cs js i) (eqb (get_or js i 0) k) (get_or cs i 0) (share i) ≡ sums_on h k hs ys cs js (suc i)
  unfolding sum_before colour_before
  step i =
      by-test (eqb (get_or js i 0) k) (λ e. rw e refl) λ e.
      let a : sum_at k (λ n. 1) js i + 0 ≡ sum_at k (λ n. 1) js i = omega arith in
      let b : sum_at k share js i + 0 ≡ sum_at k share js i = omega arith in
      rw (e, a, b) refl

  pub sums-more : (i : ℕ) {t : Sums} {b : Bool} {slot height l : ℕ} → t ≡ sums_on h k hs ys cs js i → slot ≡ get_or js i 0 → b ≡ eqb slot k → height ≡ get_or hs slot 0 → l ≡ share_by h.charge height (get_or ys i 0) →
      with_site t b (get_or cs i 0) l ≡ sums_on h k hs ys cs js (i + 1)
  sums-more i et es eb eh el = rw (et, eb, el, eh, es, add-one i) (step i)

  -- HOW MUCH they come to
  module _ (low : Low h hs ys) where
    share-low : (i : ℕ) → share i ≤ most_share
    share-low i = share-le h.charge (get_or hs (get_or js i 0) 0) (get_or ys i 0) low.charge (low.heights (get_or js i 0)) (low.ys i)

    pub sums-low : (n : ℕ) → n ≤ most_sites → ((sums_on h k hs ys cs js n).sites ≤ most_sites) × ((sums_on h k hs ys cs js n).shares ≤ most_sites * most_share)
    sums-low n l = (omega (arith, sum-at-le (λ i. 1) js k 1 (λ i. omega arith) n), omega (arith, sum-at-le share js k most_share share-low n))

    -- with one more site they fit a word
    pub room : (i : ℕ) {t : Sums} {slot height l : ℕ} → i < most_sites → t ≡ sums_on h k hs ys cs js i → slot ≡ get_or js i 0 → height ≡ get_or hs slot 0 → l ≡ share_by h.charge height (get_or ys i 0) →
        (t.sites < top_word) × (t.shares + l < top_word)
    room i l et es eh el =
        let s = sums-low i (omega arith) in
        let q = share-low i in
        rw (et, el, eh, es) (omega (arith, s.0), omega (arith, s.1, q))

-- BY NUMBERS that were read
module _ {d : Numbers} {ls : List ℕ} (p : LayoutRead d ls) where
  abbrev s : Sheet
  s = sheet_by d

  abbrev js : List ℕ
  js = layout_ties ls

  shares-so : (i : ℕ) → share_by d.head.charge (get_or d.heights (get_or js i 0) 0) (get_or (ys_in d.site_list) i 0) ≡ share_at s js i
  shares-so i = ap₂ (share_by d.head.charge) ((decoded-read p).heights (get_or js i 0)) ((decoded-read p).ys i)

  sums-are : (k n : ℕ) → n ≡ length s.sites → sums_on d.head k d.heights (ys_in d.site_list) (site_colours_in d.site_list) js n ≡ sums_at s js k
  sums-are k n e =
      ap₂ (λ (f : ℕ → ℕ) (g : ℕ → ℕ). sums (colour_before f js k n) (sum_at k (λ i. 1) js n) (sum_at k g js n)) (fun_ext (decoded-read p).colours) (fun_ext shares-so) ∙
      ap (λ (m : ℕ). sums (colour_before (λ i. (site_at s i).colour) js k m) (sum_at k (λ i. 1) js m) (sum_at k (share_at s js) js m)) e

  pub sums-read : {h : Head} {hs us vs cs ts : List ℕ} {t : Sums} (k : ℕ) → SitesRead d ls h hs us vs cs ts → t ≡ sums_on h k hs vs cs (ties_in ts) (length ts) → t ≡ sums_at s js k
  sums-read k o q = q ∙ rw (o.head, o.heights, o.ys, o.colours, o.ties) (sums-are k (length (layout_body ls)) (body-long p))

  -- THE LABEL: its length fits a word
  pub length-room : {t : Sums} (k : ℕ) → t ≡ sums_at s js k → d.head.width + t.shares < top_word
  length-room k q =
      let l = (sums-low d.head k d.heights (ys_in d.site_list) (site_colours_in d.site_list) js (low_read p) (length s.sites) (omega (arith, sites_long p, sites-few p))).1 in
      let e = ap (λ (v : Sums). v.shares) (q ∙ sym (sums-are k (length s.sites) refl)) in
      omega (arith, (low_read p).width, l, e)
