-- THE PAGE'S PROMISE, KEPT. Assumes nothing.
use mathlib.Core.Path.{◌≡◌, sym, ◌∙◌, ap, subst, subst⁻¹}
use mathlib.Core.List.{List, [], ◌∷◌, ◌++◌}
use Prim.Native.Nat.{ℕ, ◌+◌, ◌*◌, ◌≤◌, ◌<◌}
use native.Mathlib.Omega.{arith}
use lib.ListN.{length, get_or, take, length-append, length-map, get_or-append}
use lib.Seq.{get_or-append-add, get_or_at}
use Rattle.sheet.specs.Limits.{top_word}
use Rattle.sheet.specs.Sheet.{Sheet, sheet_in}
use Rattle.sheet.proofs.Accepted.{Sound, sound}
use Rattle.labelling.specs.Layout.{site_at, height_of, used_of, count_of, length_of, stated_length, layout_ties, sheet_part, layout_part, stored_fault}
use Rattle.labelling.specs.Lawful.{Ties, Rules}
use Rattle.labelling.specs.Labels.{label_colour, label_sites, label_length}
use Rattle.labelling.proofs.Counted.{sum_same}
use Rattle.labelling.proofs.Members.{used-at, used-from}
use Rattle.labelling.proofs.Labels.{label-low, labels-add-up}
use Rattle.labelling.proofs.Stored.{stored-accepted, stored-lawful, stored-ties}
use Rattle.labelling.proofs.Words.{height-low, y-low, count_low, length-low}
use Rattle.sizes.specs.Pages.{line_bytes, lines_for, bytes_for}
use Rattle.page_lines.specs.Lines.{site_start}
use Rattle.page_lines.specs.Reading.{number_in, IsLine}
use Rattle.page_lines.proofs.EachLine.{SlotRead, slot_read, SiteRead, site-read, LastRead, last-read}
use Rattle.page.specs.Page.{slot_line_of, site_line_of, slot_lines, site_lines, last_line_of, numbers_from, page_lines, page_of, page_in, page_size}
use Rattle.page.specs.Promise.{line_at, PageTrue, PagesAddUp, ColoursShared}
use Rattle.page.proofs.Joined.{Each, each_more, each-one, each-used, each_number, each_at, joined-long, joined_at, numbers-long, numbers-at, map_at}

module _ (s : Sheet) (js : List ℕ) where
  abbrev slots : List (List ℕ)
  slots = slot_lines s js

  abbrev sites : List (List ℕ)
  sites = site_lines s js

  -- as many lines as labels and sites, and the last
  slots-long : length slots ≡ count_of s js
  slots-long = length-map (used_of s js) (slot_line_of s js)

  sites_long : length sites ≡ length s.sites
  sites_long = length-map (numbers_from 0 (length s.sites)) (site_line_of s js) ∙ numbers-long 0 (length s.sites)

  pub lines_long : length (page_lines s js) ≡ lines_for (count_of s js) (length s.sites)
  lines_long = omega (arith, length-append slots (sites ++ (last_line_of s js ∷ [])), length-append sites (last_line_of s js ∷ []), slots-long, sites_long)

  -- THE LINE of a number, of each sort
  at_slot : (i : ℕ) → i < count_of s js → get_or (page_lines s js) i [] ≡ slot_line_of s js (get_or (used_of s js) i 0)
  at_slot i l = get_or-append slots (sites ++ (last_line_of s js ∷ [])) [] i (omega (arith, slots-long)) ∙ map_at (slot_line_of s js) (used_of s js) i l

  after-slots : (i : ℕ) → get_or (page_lines s js) (count_of s js + i) [] ≡ get_or (sites ++ (last_line_of s js ∷ [])) i []
  after-slots i = ap (λ (n : ℕ). get_or (page_lines s js) (n + i) []) (sym slots-long) ∙ get_or-append-add slots (sites ++ (last_line_of s js ∷ [])) i []

  at-site : (i : ℕ) → i < length s.sites → get_or (page_lines s js) (count_of s js + i) [] ≡ site_line_of s js i
  at-site i l =
      let e : 0 + i ≡ i = omega arith in
      after-slots i ∙ get_or-append sites (last_line_of s js ∷ []) [] i (omega (arith, sites_long)) ∙
      map_at (site_line_of s js) (numbers_from 0 (length s.sites)) i (omega (arith, numbers-long 0 (length s.sites))) ∙ ap (site_line_of s js) (numbers-at 0 (length s.sites) i l ∙ e)

  at_last : get_or (page_lines s js) (count_of s js + length s.sites) [] ≡ last_line_of s js
  at_last = after-slots (length s.sites) ∙ get_or_at sites (last_line_of s js) [] [] (length s.sites) sites_long

  -- ON AN ACCEPTED SHEET with a tie for each site, each is a line
  module _ (o : Sound s) (t : Ties s js) where
    slot_is : (k : ℕ) → k < length s.slots → SlotRead k (label_colour s js k) (label_sites s js k) (height_of s k) (label_length s js k)
    slot_is k l =
        let b = label-low s o js k in
        slot_read k (label_colour s js k) (label_sites s js k) (height_of s k) (label_length s js k) (omega (arith, o.few-slots)) (omega (arith, b.colour)) (omega (arith, b.sites)) (omega (arith, height-low s.slots k o.heights)) (omega (arith, b.size))

    site-is : (i : ℕ) → i < length s.sites → SiteRead i (get_or js i 0) (height_of s (get_or js i 0)) (site_at s i).y
    site-is i l =
        site-read i (get_or js i 0) (height_of s (get_or js i 0)) (site_at s i).y (omega (arith, o.few-sites)) (omega (arith, o.few-slots, t.low i l))
        (omega (arith, height-low s.slots (get_or js i 0) o.heights, y-low s.sites i o.ys))

    last-is : LastRead (count_of s js) (length_of s js)
    last-is = last-read (count_of s js) (length_of s js) (omega (arith, count_low s o js)) (omega (arith, length-low s o js))

    each_line : Each IsLine (page_lines s js)
    each_line =
        each_more IsLine slots _ (each-used IsLine (slot_line_of s js) js 0 (length s.slots) (λ k l. (slot_is k (omega arith)).line))
        (each_more IsLine sites _ (each_number IsLine (site_line_of s js) 0 (length s.sites) (λ i l. (site-is i (omega arith)).line)) (each-one IsLine (last_line_of s js) last-is.line))

    -- the page's lines
    line_of : (i : ℕ) {l : List ℕ} → i < lines_for (count_of s js) (length s.sites) → get_or (page_lines s js) i [] ≡ l → line_at (page_of s js) i ≡ l
    line_of i h e = joined_at (page_lines s js) i each_line (omega (arith, lines_long)) ∙ e

    slot_of : (i : ℕ) → i < count_of s js → line_at (page_of s js) i ≡ slot_line_of s js (get_or (used_of s js) i 0)
    slot_of i l = line_of i (omega arith) (at_slot i l)

    last_of : line_at (page_of s js) (count_of s js + length s.sites) ≡ last_line_of s js
    last_of = line_of (count_of s js + length s.sites) (omega arith) at_last

    -- a used slot is one of the sheet's
    used_low : (i : ℕ) → i < count_of s js → get_or (used_of s js) i 0 < length s.slots
    used_low i l = let (a, b, c) = used-from (get_or (used_of s js) i 0) 0 (length s.slots) js (used-at (used_of s js) i l) in omega (arith, b)

    pub page-long : length (page_of s js) ≡ bytes_for (count_of s js) (length s.sites)
    page-long = joined-long (page_lines s js) each_line ∙ ap (λ (n : ℕ). line_bytes * n) lines_long

    pub page-true : Rules s js → PageTrue (count_of s js) (length_of s js) (length s.sites) (page_of s js)
    page-true r =
        let add = labels-add-up s js t r in
        record {
          long = page-long;
          lines = λ i l. subst⁻¹ IsLine (joined_at (page_lines s js) i each_line (omega (arith, lines_long))) (each_at IsLine (page_lines s js) i each_line (omega (arith, lines_long)));
          starts = λ i l. ap (take (length site_start)) (line_of (count_of s js + i) (omega arith) (at-site i l)) ∙ (site-is i l).start;
          lengths =
              sum_same (λ i. number_in 20 27 (line_at (page_of s js) i)) (λ i. label_length s js (get_or (used_of s js) i 0)) (count_of s js) (λ i l. ap (number_in 20 27) (slot_of i l) ∙ (slot_is (get_or (used_of s js) i 0) (used_low i l)).size) ∙
              add.lengths ∙ sym (ap (number_in 20 27) last_of ∙ last-is.size);
          counts =
              sum_same (λ i. number_in 8 9 (line_at (page_of s js) i)) (λ i. label_sites s js (get_or (used_of s js) i 0)) (count_of s js) (λ i l. ap (number_in 8 9) (slot_of i l) ∙ (slot_is (get_or (used_of s js) i 0) (used_low i l)).sites) ∙
              add.sites;
          count = ap (number_in 8 10) last_of ∙ last-is.count;
          size_is = ap (number_in 20 27) last_of ∙ last-is.size;
        }

-- OF A STORED SHEET of which nothing is refused
module _ (ws : List ℕ) (z : stored_fault ws ≡ 0) where
  abbrev sheet : Sheet
  sheet = sheet_in (sheet_part ws)

  abbrev ties : List ℕ
  ties = layout_ties (layout_part ws)

  fine : Sound sheet
  fine = sound (sheet_part ws) (stored-accepted ws z)

  -- its size is that of its lines
  pub size_of : page_size ws ≡ bytes_for (count_of sheet ties) (length sheet.sites)
  size_of = ap (λ (n : ℕ). line_bytes * n) (lines_long sheet ties)

  -- so few bytes that their number fits
  pub size_fits : page_size ws ≤ top_word
  size_fits = omega (arith, size_of, count_low sheet fine ties, fine.few-sites)

  pub stored-long : length (page_in ws) ≡ page_size ws
  stored-long = page-long sheet ties fine (stored-ties ws z) ∙ sym size_of

pub pages-add-up : PagesAddUp
pages-add-up ws z =
    let w = stored-lawful ws z in
    subst (λ (c : ℕ). PageTrue c (stated_length (layout_part ws)) (length (sheet ws z).sites) (page_in ws)) (sym w.six.0)
    (subst (λ (l : ℕ). PageTrue (count_of (sheet ws z) (ties ws z)) l (length (sheet ws z).sites) (page_in ws)) (sym w.six.1) (page-true (sheet ws z) (ties ws z) (fine ws z) (stored-ties ws z) w.rules))

pub colours-shared : ColoursShared
colours-shared ws z i l = (labels-add-up (sheet ws z) (ties ws z) (stored-ties ws z) (stored-lawful ws z).rules).colour i l
