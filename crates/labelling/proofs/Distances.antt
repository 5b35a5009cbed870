-- Laws of what rules 3 and 5 and the length ask by numbers: heights far enough apart, a label clear of a site, a site that counts, a
-- site's share. No other proof spells these out. Assumes nothing.
use mathlib.Core.Path.{◌≡◌}
use mathlib.Core.Logic.{◌⊎◌, inl, inr}
use mathlib.Core.Bool.{true, false}
use Prim.Native.Nat.{ℕ, ◌+◌, ◌-◌, ◌≤◌, ◌<◌}
use lib.Dec.{leb, ltb}
use native.Mathlib.Omega.{arith}
use borrow.Author.Tests.{leb-true, ltb-true, le-leb, lt-ltb, eq-eqb, ne_eqb}
use Rattle.lists.proofs.Tests.{by-test, by_equal, by-either, or-e}
use Rattle.sheet.specs.Limits.{number_top, most_share}
use Rattle.labelling.specs.Layout.{apart, far_by, counts_by, clear_by, off_by, share_by}

-- ---- two labels

far-e : (d a b : ℕ) → far_by d a b ≡ true → d ≤ apart a b
unfolding far_by
far-e d a b f = leb-true d (apart a b) f

far-i : (d a b : ℕ) → d ≤ apart a b → far_by d a b ≡ true
unfolding far_by
far-i d a b h = le-leb d (apart a b) h

pub far-sym : (d a b : ℕ) → far_by d a b ≡ true → far_by d b a ≡ true
far-sym d a b f = far-i d b a (omega (arith, far-e d a b f))

pub far-trans : (d a b c : ℕ) → a < b → b < c → far_by d a b ≡ true → far_by d b c ≡ true → far_by d a c ≡ true
far-trans d a b c p q f g = far-i d a c (omega (arith, far-e d a b f, far-e d b c g))

-- one further down from a label above, one further up from a label below
pub far-down : (d a b c : ℕ) → a < b → b ≤ c → far_by d a b ≡ true → far_by d a c ≡ true
far-down d a b c p q f = far-i d a c (omega (arith, far-e d a b f))

pub far-up : (d a b c : ℕ) → b < a → c ≤ b → far_by d a b ≡ true → far_by d a c ≡ true
far-up d a b c p q f = far-i d a c (omega (arith, far-e d a b f))

-- ---- a label and a site

clear-e : (d h y : ℕ) → clear_by d h y ≡ true → d ≤ apart h y
unfolding clear_by
clear-e d h y f = leb-true d (apart h y) f

clear-i : (d h y : ℕ) → d ≤ apart h y → clear_by d h y ≡ true
unfolding clear_by
clear-i d h y l = le-leb d (apart h y) l

-- a site beyond another label
pub far-above : (d a b y : ℕ) → a < b → b ≤ y → far_by d a b ≡ true → clear_by d a y ≡ true
far-above d a b y p q f = clear-i d a y (omega (arith, far-e d a b f))

pub far-below : (d a b y : ℕ) → b < a → y < b → far_by d a b ≡ true → clear_by d a y ≡ true
far-below d a b y p q f = clear-i d a y (omega (arith, far-e d a b f))

pub clear_above : (d a b y : ℕ) → a < b → b ≤ y → clear_by d b y ≡ true → clear_by d a y ≡ true
clear_above d a b y p q f = clear-i d a y (omega (arith, clear-e d b y f))

pub clear-below : (d a b y : ℕ) → b < a → y < b → clear_by d b y ≡ true → clear_by d a y ≡ true
clear-below d a b y p q f = clear-i d a y (omega (arith, clear-e d b y f))

-- a label that is clear of a site is not at its height
pub clear-off : (d h y : ℕ) → 0 < d → clear_by d h y ≡ true → h ≡ y → ⊥
clear-off d h y g f e = omega (arith, clear-e d h y f)

-- ---- a site that counts against a label: it is at its left end or right of it, or left of it by less than the gap; so it counts against
-- one further left too

pub counts-e : (d e x : ℕ) → counts_by d e x ≡ true → (e ≤ x) ⊎ (e - x < d)
unfolding counts_by
counts-e d e x f = by-either (or-e (leb e x) (ltb (e - x) d) f) (λ h. inl (leb-true e x h)) (λ h. inr (ltb-true (e - x) d h))

pub counts-i : (d e x : ℕ) → (e ≤ x) ⊎ (e - x < d) → counts_by d e x ≡ true
unfolding counts_by
counts-i d e x (inl h) = rw (le-leb e x h)
counts-i d e x (inr h) = by-test (leb e x) (λ g. rw g) (λ g. rw (g, lt-ltb (e - x) d h))

pub counts-left : (d c e x : ℕ) → c ≤ e → counts_by d e x ≡ true → counts_by d c x ≡ true
counts-left d c e x l f = counts-i d c x (by-either (counts-e d e x f) (λ h. inl (omega arith)) (λ h. inr (omega arith)))

-- ---- a site's share

pub off-none : (h y : ℕ) → h ≡ y → off_by h y ≡ false
unfolding off_by
off-none h y e = rw (eq-eqb h y e)

pub off-some : (h y : ℕ) → (h ≡ y → ⊥) → off_by h y ≡ true
unfolding off_by
off-some h y n = rw (ne_eqb h y n)

-- on its backbone a site has none; off it, the distance and the charge
pub share-on : (c h y : ℕ) → h ≡ y → share_by c h y ≡ 0
unfolding share_by
share-on c h y e = rw (off-none h y e) (omega arith)

pub share-off : (c h y : ℕ) → (h ≡ y → ⊥) → share_by c h y ≡ apart h y + c
unfolding share_by
share-off c h y n = rw (off-some h y n)

-- it is at most the greatest drop and the greatest charge
pub share-le : (c h y : ℕ) → c < number_top → h < number_top → y < number_top → share_by c h y ≤ most_share
share-le c h y o p q = by_equal h y (λ e. omega (arith, share-on c h y e)) λ n. omega (arith, share-off c h y n)
