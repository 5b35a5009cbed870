-- THE LEFT END of a label: at or left of where each of its sites would have it begin, and one of these. Assumes nothing but one tie
-- a site and no site right of the width.
use mathlib.Core.Path.{◌≡◌, refl, ◌∙◌, ap, subst}
use mathlib.Core.Bool.{Bool, true, false, cond}
use mathlib.Core.List.{List}
use Prim.Native.Nat.{ℕ, ◌≤◌, ◌<◌}
use native.Mathlib.Omega.{arith}
use lib.ListN.{length, get_or}
use borrow.Author.Tests.{leb-true}
use Rattle.sheet.specs.Sheet.{all, Site, Sheet, inside_by}
use Rattle.labelling.specs.Layout.{no_site, site_at, tied, is_used, least_x, left_end}
use Rattle.labelling.specs.Pairs.{start_of}
use Rattle.lists.proofs.Tests.{by_order}
use Rattle.labelling.proofs.Members.{all-at, at-used, least_x-width, least_x-le, least_x-is}
use Rattle.labelling.proofs.Earlier.{x_at}
use Rattle.sheet.proofs.Accepted.{Sound}

-- where a site alone would have its label begin, on a one-sided sheet: at its x
pub start-one : (s : Sheet) → s.is_two_sided ≡ false → (t : Site) → start_of s t ≡ t.x
start-one s e t = ap (λ (b : Bool). cond b 0 t.x) e

module _ (s : Sheet) (js : List ℕ) (long : length js ≡ length s.sites) where
  pub left_le : (i : ℕ) → i < length s.sites → left_end s js (get_or js i 0) ≤ start_of s (site_at s i)
  left_le i l = go s.is_two_sided
    where
      go : (b : Bool) → cond b 0 (least_x (get_or js i 0) s.width (tied s js)) ≤ cond b 0 (site_at s i).x
      go true = omega arith
      go false = least_x-le (get_or js i 0) s.width s.sites js i long l refl

  pub left_is : all (inside_by s.width) s.sites ≡ true → (k : ℕ) → is_used k js ≡ true →
      (i : ℕ) × (i < length s.sites) × (get_or js i 0 ≡ k) × (left_end s js k ≡ start_of s (site_at s i))
  left_is inside k u = go s.is_two_sided (at-used k js u)
    where
      go : (b : Bool) → (i : ℕ) × (i < length js) × (get_or js i 0 ≡ k) →
          (i : ℕ) × (i < length s.sites) × (get_or js i 0 ≡ k) × (cond b 0 (least_x k s.width (tied s js)) ≡ cond b 0 (site_at s i).x)
      go true (i, l, e) = (i, omega arith, e, refl)
      go false (i, l, e) =
          by_order s.width (least_x k s.width (tied s js))
          (λ h. (
            i,
            omega arith,
            e,
            omega (
              arith,
              least_x-width k s.width (tied s js),
              least_x-le k s.width s.sites js i long (omega arith) e,
              leb-true (site_at s i).x s.width (all-at (inside_by s.width) no_site s.sites inside i (omega arith)),
            ),
          ))
          λ h. least_x-is k s.width s.sites js long h

-- one-sided: the x of the label's leftmost site
pub record LeftEnd (s : Sheet) (js : List ℕ) (k e : ℕ) : Type 0 where
  pub place : ℕ
  pub inside : place < length s.sites
  pub tied : get_or js place 0 ≡ k
  pub there : e ≡ x_at s place
  pub least : (i : ℕ) → i < length s.sites → get_or js i 0 ≡ k → e ≤ x_at s i

pub left-end : (s : Sheet) → Sound s → (js : List ℕ) → length js ≡ length s.sites → s.is_two_sided ≡ false → (k : ℕ) → is_used k js ≡ true →
    LeftEnd s js k (left_end s js k)
left-end s o js l t k u = go (left_is s js l o.inside k u)
  where
    go : (i : ℕ) × (i < length s.sites) × (get_or js i 0 ≡ k) × (left_end s js k ≡ start_of s (site_at s i)) → LeftEnd s js k (left_end s js k)
    go (p, h, e, q) =
        record {
          place = p;
          inside = h;
          tied = e;
          there = q ∙ start-one s t (site_at s p);
          least = λ i v f. omega (arith, subst (λ (n : ℕ). left_end s js n ≤ start_of s (site_at s i)) f (left_le s js l i v), start-one s t (site_at s i));
        }
