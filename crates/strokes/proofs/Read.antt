-- The numbers of a sheet and a layout of it that were read: low enough for points, and the ends of strokes. Assumes nothing.
use mathlib.Core.Path.{◌≡◌, refl, ◌∙◌, ap, ap₂, subst⁻¹}
use mathlib.Core.Bool.{Bool, true, not}
use mathlib.Core.List.{List}
use Prim.Native.Nat.{ℕ, ◌≤◌, ◌<◌}
use native.Mathlib.Omega.{arith}
use lib.Dec.{eqb}
use lib.ListN.{length, get_or}
use borrow.Author.Tests.{leb-true}
use Rattle.sheet.specs.Sheet.{all, inside_by, Sheet}
use Rattle.sheet.proofs.Accepted.{sound}
use Rattle.labelling.specs.Layout.{no_site, off_by, site_at, tie_at, height_of, left_end, ties_in, layout_ties}
use Rattle.labelling.specs.Strokes.{end_at, Bone, Drop, bone_of, drop_of, is_off}
use Rattle.labelling.proofs.Members.{all-at}
use Rattle.labelling.proofs.Strokes.{left-width}
use Rattle.points.specs.declared.stroke.Stroke.{Stroke}
use Rattle.points.specs.Points.{widest_number}
use Rattle.points.specs.Strokes.{drawn}
use Rattle.decoding.specs.Decoding.{sheet_by, LayoutRead, xs_in, ys_in}
use Rattle.decoding.specs.declared.Numbers.{Numbers}
use Rattle.words.specs.declared.tied.Head.{Head}
use Rattle.layouts.proofs.Fitting.{low_read}
use Rattle.judge.specs.Opened.{SitesRead}
use Rattle.layouts.proofs.Read.{sheet-is, decoded-read, sites_long}

module _ {d : Numbers} {ls : List ℕ} (p : LayoutRead d ls) where
  abbrev s : Sheet
  s = sheet_by d

  -- LOW ENOUGH for points
  pub width_low : s.width ≤ widest_number
  width_low = omega (arith, (low_read p).width)

  pub height-low : (k : ℕ) → get_or d.heights k 0 ≤ widest_number
  height-low k = omega (arith, (low_read p).heights k)

  pub y-low : (i : ℕ) → get_or (ys_in d.site_list) i 0 ≤ widest_number
  y-low i = omega (arith, (low_read p).ys i)

  pub left-low : (k : ℕ) → left_end s (layout_ties ls) k ≤ widest_number
  left-low k = omega (arith, left-width s (layout_ties ls) k, width_low)

  pub x-low : (i : ℕ) → i < d.sites → get_or (xs_in d.site_list) i 0 ≤ widest_number
  x-low i l = omega (arith, (decoded-read p).xs i, inside i (omega (arith, sites_long p)), width_low)
    where
      inside : (i : ℕ) → i < length s.sites → (site_at s i).x ≤ s.width
      inside i l = leb-true (site_at s i).x s.width (all-at (inside_by s.width) no_site s.sites (subst⁻¹ (λ (z : Sheet). all (inside_by z.width) z.sites ≡ true) (sheet-is p) (sound p.read.words p.read.accepted).inside) i l)

  -- THE STROKES: what code finds is the backbone of a slot, the drop of a site
  pub bone-is : {t : Stroke} (k : ℕ) {left height : ℕ} → left ≡ left_end s (layout_ties ls) k → height ≡ get_or d.heights k 0 →
      t ≡ drawn (Bone (end_at left height) (end_at d.head.width height)) → t ≡ drawn (bone_of s (layout_ties ls) k)
  bone-is k e f q = q ∙ ap₂ (λ (x y : ℕ). drawn (Bone (end_at x y) (end_at d.head.width y))) e (f ∙ (decoded-read p).heights k)

  -- on the sites that were opened
  module _ {h : Head} {hs us vs cs ts : List ℕ} (o : SitesRead d ls h hs us vs cs ts) (i : ℕ) {slot height : ℕ} (f : slot ≡ get_or (ties_in ts) i 0) (g : height ≡ get_or hs slot 0) where
    height-is : height ≡ height_of s (get_or (layout_ties ls) i 0)
    height-is = g ∙ ap (λ (l : List ℕ). get_or l slot 0) o.heights ∙ (decoded-read p).heights slot ∙ ap (height_of s) (f ∙ ap (λ (l : List ℕ). get_or (ties_in l) i 0) o.ties)

    y-is : get_or vs i 0 ≡ (site_at s i).y
    y-is = ap (λ (l : List ℕ). get_or l i 0) o.ys ∙ (decoded-read p).ys i

    pub off-is : {b : Bool} → b ≡ not (eqb height (get_or vs i 0)) → b ≡ is_off s (tie_at s (layout_ties ls) i)
    unfolding off_by
    off-is q = q ∙ ap₂ off_by height-is y-is

    pub drop-is : {t : Stroke} → t ≡ drawn (Drop (end_at (get_or us i 0) (get_or vs i 0)) (end_at (get_or us i 0) height)) → t ≡ drawn (drop_of s (tie_at s (layout_ties ls) i))
    drop-is q = q ∙ rw (ap (λ (l : List ℕ). get_or l i 0) o.xs ∙ (decoded-read p).xs i, y-is, height-is) refl

    pub drop-low : i < d.sites → (get_or us i 0 ≤ widest_number) × (get_or vs i 0 ≤ widest_number) × (height ≤ widest_number)
    drop-low l = (
      omega (arith, x-low i l, ap (λ (l : List ℕ). get_or l i 0) o.xs),
      omega (arith, y-low i, ap (λ (l : List ℕ). get_or l i 0) o.ys),
      omega (arith, height-low slot, g ∙ ap (λ (l : List ℕ). get_or l slot 0) o.heights),
    )
