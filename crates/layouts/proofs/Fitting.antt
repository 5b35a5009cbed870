-- The decoded numbers of an accepted sheet and the ties of a layout of it fit what the loops ask. Assumes nothing.
use mathlib.Core.Path.{◌≡◌, ap, ◌∙◌}
use mathlib.Core.Bool.{true}
use mathlib.Core.List.{List}
use Prim.Native.Nat.{ℕ, ◌<◌}
use native.Mathlib.Omega.{arith}
use lib.ListN.{length, get_or, length-drop}
use Rattle.lists.specs.Arrays.{padded}
use Rattle.lists.proofs.Arrays.{padded-at, padded-long}
use Rattle.sheet.specs.Limits.{most_slots, most_sites}
use Rattle.sheet.specs.Sheet.{Sheet, sheet_in, sheet_fault}
use Rattle.sheet.proofs.Accepted.{sound}
use Rattle.labelling.specs.Layout.{ties_at, layout_body, layout_ties, is_layout}
use Rattle.labelling.proofs.Words.{height-low, y-low, formed, formed-ties}
use Rattle.decoding.specs.Decoding.{SiteNumbers, head_by, ys_of, ys_in, site_array, LayoutRead}
use Rattle.decoding.specs.declared.Numbers.{Numbers}
use Rattle.decoding.proofs.Places.{ys-at}
use Rattle.decoding.proofs.Records.{ys-array, site-array-long}
use Rattle.words.specs.declared.tied.Head.{Head}
use Rattle.layouts.specs.Model.{Fits, Low}

module _ (ss ls : List ℕ) (ok : sheet_fault ss ≡ 0) (form : is_layout (sheet_in ss) ls ≡ true) where
  abbrev s : Sheet
  s = sheet_in ss

  -- as many ties as sites
  pub long : length (layout_body ls) ≡ length s.sites
  long = omega (arith, (formed s ls form).long, length-drop ties_at ls)

  pub some : 0 < length ls
  some = omega (arith, (formed s ls form).long)

  -- the height of each tie's slot is in the array
  tie-low : (i : ℕ) → i < length (layout_body ls) → get_or (layout_ties ls) i 0 < length s.slots
  tie-low i l = (formed-ties s ls (formed s ls form)).low i (omega (arith, long))

  pub fits : (hs : List ℕ) (us : List SiteNumbers) (ws : List ℕ) → hs ≡ padded most_slots s.slots → us ≡ site_array s.sites → ws ≡ layout_body ls → Fits hs us ws
  fits hs us ws eh es ew =
      rw (eh, es, ew)
      (record {
        sites-long = omega (arith, long, site-array-long s.sites);
        slots-low = λ i l. omega (arith, tie-low i l, padded-long most_slots s.slots);
        few = omega (arith, long, (sound ss ok).few-sites);
      })

  pub low : (h : Head) (hs ys : List ℕ) → h ≡ head_by s → hs ≡ padded most_slots s.slots → ys ≡ padded most_sites (ys_of s.sites) → Low h hs ys
  low h hs ys eh es ey =
      rw (eh, es, ey)
      (record {
        width = (sound ss ok).narrow;
        charge = (sound ss ok).charged;
        heights = λ k. rw (padded-at most_slots s.slots k) (height-low s.slots k (sound ss ok).heights);
        ys = λ i. rw (padded-at most_sites (ys_of s.sites) i, ys-at s.sites i) (y-low s.sites i (sound ss ok).ys);
      })

-- THE SAME for numbers that were read
module _ {d : Numbers} {ls : List ℕ} (r : LayoutRead d ls) where
  abbrev ws : List ℕ
  ws = r.read.words

  pub fits_read : (ts : List ℕ) → ts ≡ layout_body ls → Fits d.heights d.site_list ts
  fits_read ts e =
      fits ws ls r.read.accepted r.form _ _ _ (ap (λ (z : Numbers). z.heights) r.read.numbers) (ap (λ (z : Numbers). z.site_list) r.read.numbers) e

  pub low_read : Low d.head d.heights (ys_in d.site_list)
  low_read =
      let s : Sheet = sheet_in ws in
      low ws ls r.read.accepted r.form _ _ _ (ap (λ (z : Numbers). z.head) r.read.numbers) (ap (λ (z : Numbers). z.heights) r.read.numbers) (ap (λ (z : Numbers). ys_in z.site_list) r.read.numbers ∙ ys-array s.sites)
