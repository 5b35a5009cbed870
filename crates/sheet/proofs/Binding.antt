-- A sheet without the bounds that can't bind has the same head, slots and sites, no more budgets, and is accepted where the sheet is.
-- Assumes nothing.
use mathlib.Core.Path.{◌≡◌, refl, ap}
use mathlib.Core.Bool.{Bool, true, false, ◌&&◌, not, false≢true, cond}
use mathlib.Core.List.{List, [], ◌∷◌}
use Prim.Native.Nat.{ℕ, zero, suc, ◌+◌, ◌*◌, ◌-◌, ◌^◌, ◌≤◌, ◌<◌}
use native.Mathlib.Nat.{mul-le-mul}
use native.Mathlib.Omega.{arith}
use lib.Dec.{ltb, leb, eqb}
use lib.ListN.{length, get_or, drop}
use borrow.Author.Tests.{eqb-true, eq-eqb, ne_eqb, le-leb, leb-true}
use Rattle.lists.proofs.Tests.{by-test, and_l, and_r}
use Rattle.sheet.specs.Limits.{unbounded, most_budgets}
use Rattle.sheet.specs.Refusals.{given}
use Rattle.sheet.specs.Sheet.{kind_of, bits, has_spare, in_order, Site, Colour, Sheet, slots_in, sites_run, colours_in, sites_in, head_in, is_charge, has_charge, charge_in, body_at, body_of, sheet_in, product_of, is_head, sheet_fault, work_for}
use Rattle.sheet.specs.Binding.{binding_word, binding_only, binding_colours, with_colours, sites_of}
use Rattle.sheet.proofs.Charge.{charge-kind}
use Rattle.sheet.proofs.Accepted.{unrefused, Step, step}

-- ONE WORD
pub kind-kept : (w n : ℕ) → kind_of (binding_word w n) ≡ kind_of w
kind-kept w n = by-test (eqb (kind_of w) 3 && leb n (bits w 0 8)) (λ e. rw e (omega arith)) (λ e. rw e)

pub others-kept : (w n : ℕ) → eqb (kind_of w) 3 ≡ false → binding_word w n ≡ w
others-kept w n e = rw e

spare-bits : (w n : ℕ) → bits (binding_word w n) 8 20 ≡ bits w 8 20
spare-bits w n = by-test (eqb (kind_of w) 3 && leb n (bits w 0 8)) (λ e. rw e (omega arith)) (λ e. rw e)

pub spare-kept : (w n : ℕ) → has_spare (binding_word w n) ≡ has_spare w
spare-kept w n = by-test (eqb (kind_of w) 3) (λ e. rw (kind-kept w n, spare-bits w n, e, eqb-true (kind_of w) 3 e)) (λ e. rw (others-kept w n e))

pub bound-binding : (w n : ℕ) → eqb (kind_of w) 3 ≡ true → bits (binding_word w n) 0 8 ≡ cond (leb n (bits w 0 8)) unbounded (bits w 0 8)
bound-binding w n e = rw e (by-test (leb n (bits w 0 8)) (λ f. rw f (omega arith)) (λ f. rw f))

-- THE WORDS
pub length-kept : (ws : List ℕ) → length (binding_only ws) ≡ length ws
unfolding binding_only
length-kept [] = refl
length-kept (w ∷ ws) = ap suc (length-kept ws)

pub slots_kept : (ws : List ℕ) → slots_in (binding_only ws) ≡ slots_in ws
unfolding binding_only slots_in
slots_kept [] = refl
slots_kept (w ∷ ws) =
    by-test (eqb (kind_of w) 3)
    (λ e. let f : eqb (kind_of w) 2 ≡ false = ne_eqb (kind_of w) 2 (λ q. omega (arith, eqb-true (kind_of w) 3 e)) in rw (kind-kept w (sites_run ws), f) (slots_kept ws))
    (λ e. rw (others-kept w (sites_run ws) e, slots_kept ws))

pub run-kept : (ws : List ℕ) → sites_run (binding_only ws) ≡ sites_run ws
unfolding binding_only sites_run
run-kept [] = refl
run-kept (w ∷ ws) = rw (kind-kept w (sites_run ws), run-kept ws)

pub colours-binding : (ws : List ℕ) → colours_in (binding_only ws) ≡ binding_colours (colours_in ws)
unfolding binding_only colours_in binding_colours
colours-binding [] = refl
colours-binding (w ∷ ws) =
    by-test (eqb (kind_of w) 3)
    (λ e. rw (kind-kept w (sites_run ws), bound-binding w (sites_run ws) e, e, run-kept ws, colours-binding ws))
    (λ e. rw (kind-kept w (sites_run ws), e) (colours-binding ws))

pub sites-kept : (c : ℕ) (ws : List ℕ) → sites_in c (binding_only ws) ≡ sites_in c ws
unfolding binding_only sites_in
sites-kept c [] = refl
sites-kept c (w ∷ ws) =
    by-test (eqb (kind_of w) 3)
    (λ e. rw (kind-kept w (sites_run ws), e) (sites-kept (suc c) ws))
    (λ e. rw (others-kept w (sites_run ws) e, e, sites-kept c ws))

pub order-kept : (z : ℕ) (ws : List ℕ) → in_order z (binding_only ws) ≡ in_order z ws
unfolding binding_only in_order
order-kept z [] = refl
order-kept z (w ∷ ws) = rw (spare-kept w (sites_run ws), kind-kept w (sites_run ws), order-kept 0 ws, order-kept 1 ws)

-- THE SHEET
pub length-binding : (cs : List Colour) → length (binding_colours cs) ≡ length cs
unfolding binding_colours
length-binding [] = refl
length-binding (c ∷ cs) = ap suc (length-binding cs)

-- P does not grow
pub product-binding : (cs : List Colour) → product_of (binding_colours cs) ≤ product_of cs
unfolding binding_colours product_of
product-binding [] = omega arith
product-binding (c ∷ cs) =
    mul-le-mul {n₂ = cond (eqb c.bound unbounded) 1 (c.bound + 1)} {m₂ = product_of cs}
    (by-test (leb c.sites c.bound) (λ e. rw e (by-test (eqb c.bound unbounded) (λ f. rw f (omega arith)) (λ f. rw f (omega arith)))) (λ e. rw e (omega arith)))
    (product-binding cs)

pub work-binding : (s : Sheet) → work_for (with_colours s (binding_colours s.colours)) ≤ work_for s
work-binding s =
    rw (length-binding s.colours)
    (by-test s.is_two_sided
    (λ e. rw e (mul-le-mul {n₂ = a} {m₂ = product_of s.colours} (omega arith) (product-binding s.colours)))
    (λ e. rw e (mul-le-mul {n₂ = b} {m₂ = product_of s.colours} (omega arith) (product-binding s.colours))))
  where
    a : ℕ
    a = (length s.slots + 2) * (length s.colours + 1)

    b : ℕ
    b = (length s.slots + 2) ^ 2 * (length s.colours + 1) ^ 2 * (length s.sites + 1)

-- a charge stays, and no other word becomes one
charge-same : (w n : ℕ) → is_charge (binding_word w n) ≡ is_charge w
unfolding is_charge
charge-same w n =
    by-test (eqb (kind_of w) 3)
    (λ e. let f : eqb (kind_of w) 5 ≡ false = ne_eqb (kind_of w) 5 (λ q. omega (arith, eqb-true (kind_of w) 3 e)) in rw (kind-kept w n, f))
    (λ e. rw (others-kept w n e))

charge-others : (w n : ℕ) → is_charge w ≡ true → binding_word w n ≡ w
charge-others w n h = others-kept w n (ne_eqb (kind_of w) 3 (λ q. omega (arith, charge-kind w h)))

charge-kept : (ws : List ℕ) → (has_charge (binding_only ws) ≡ has_charge ws) × (charge_in (binding_only ws) ≡ charge_in ws)
unfolding binding_only
charge-kept [] = (refl, refl)
charge-kept (w ∷ []) = (refl, refl)
charge-kept (w ∷ v ∷ ws) = (
  charge-same v (sites_run ws),
  by-test (is_charge v) (λ e. rw (charge-others v (sites_run ws) e)) (λ e. rw (charge-same v (sites_run ws), e)),
)

drop-binding : (i : ℕ) (ws : List ℕ) → drop i (binding_only ws) ≡ binding_only (drop i ws)
unfolding binding_only
drop-binding zero ws = refl
drop-binding (suc i) [] = refl
drop-binding (suc i) (w ∷ ws) = drop-binding i ws

body-binding : (ws : List ℕ) → body_of (binding_only ws) ≡ binding_only (body_of ws)
body-binding ws = rw (charge-kept ws).0 (drop-binding (body_at ws) ws)

head-kept : (ws : List ℕ) → is_head ws ≡ true → head_in (binding_only ws) ≡ head_in ws
unfolding binding_only
head-kept [] h = absurd (false≢true h)
head-kept (w ∷ ws) h = others-kept w (sites_run ws) (ne_eqb (kind_of w) 3 (λ q. omega (arith, k)))
  where
    kind : Bool
    kind = ltb 0 (suc (length ws)) && eqb (kind_of w) 1

    wide : Bool
    wide = not (eqb (bits w 0 14) 0)

    k : kind_of w ≡ 1
    k = eqb-true (kind_of w) 1 (and_r (ltb 0 (suc (length ws))) (eqb (kind_of w) 1) (and_l kind wide (and_l (kind && wide) (not (eqb (bits w 14 12) 0)) h)))

pub sheet-binding : (ws : List ℕ) → is_head ws ≡ true → sheet_in (binding_only ws) ≡ with_colours (sheet_in ws) (binding_colours (sheet_in ws).colours)
sheet-binding ws h =
    let b = body_of ws in
    rw (body-binding ws, (charge-kept ws).1, head-kept ws h, slots_kept b, colours-binding b, sites-kept 0 b)

pub binding-accepted : (ws : List ℕ) → sheet_fault ws ≡ 0 → sheet_fault (binding_only ws) ≡ 0
unfolding given
binding-accepted ws h =
    let u = unrefused ws h in
    let b = body_of ws in
    let p : leb (product_of (binding_colours (colours_in b))) most_budgets ≡ true = le-leb (product_of (binding_colours (colours_in b))) most_budgets (omega (arith, leb-true (product_of (colours_in b)) most_budgets u.product, product-binding (colours_in b))) in
    rw (length-kept ws, head-kept ws u.head, body-binding ws, order-kept 0 b, slots_kept b, colours-binding b, sites-kept 0 b, length-binding (colours_in b), u.head, u.order, u.counts, u.rise, u.inside, u.differ, p)

-- A COLOUR'S SITES: those that follow its word at once are all that there are
-- a site of the last colour is of no earlier one
few-earlier : (d c : ℕ) (ws : List ℕ) → d < c → sites_of d (sites_in (suc c) ws) ≡ 0
unfolding sites_in sites_of
few-earlier d c [] h = refl
few-earlier d c (w ∷ ws) h =
    let z : eqb (suc c - 1) d ≡ false = ne_eqb (suc c - 1) d (λ q. omega arith) in
    by-test (eqb (kind_of w) 3) (λ e. rw e (few-earlier d (suc c) ws (omega arith)))
    (λ e. rw e (by-test (eqb (kind_of w) 4) (λ f. rw (f, z) (few-earlier d c ws h)) (λ f. rw f (few-earlier d c ws h))))

few-run : (c : ℕ) (ws : List ℕ) → in_order 1 ws ≡ true → sites_of c (sites_in (suc c) ws) ≤ sites_run ws
unfolding sites_in sites_of sites_run
few-run c [] h = omega arith
few-run c (w ∷ ws) h = go (step 1 w ws h).1 (λ i. few-run c ws i)
  where
    go : Step 1 w ws → (in_order 1 ws ≡ true → sites_of c (sites_in (suc c) ws) ≤ sites_run ws) → sites_of c (sites_in (suc c) (w ∷ ws)) ≤ sites_run (w ∷ ws)
    go (Step.slot e q i) ih = absurd (omega arith)
    go (Step.colour e i) ih = rw (eq-eqb (kind_of w) 3 e) (omega (arith, few-earlier c (suc c) ws (omega arith)))
    go (Step.site e q i) ih = rw (ne_eqb (kind_of w) 3 (λ q. omega arith), eq-eqb (kind_of w) 4 e) (by-test (eqb (suc c - 1) c) (λ f. rw f (omega (arith, ih i))) (λ f. rw f (omega (arith, ih i))))

-- of the colours from a number on, each has at most the sites that follow it
abbrev pub Few : (colour : ℕ) → List Site → List Colour → Type 0
Few c ss ks = (d : Colour) (i : ℕ) → i < length ks → sites_of (c + i) ss ≤ (get_or ks i d).sites

few-from : (z c : ℕ) (ws : List ℕ) → in_order z ws ≡ true → (z ≡ 1 → 0 < c) → Few c (sites_in c ws) (colours_in ws)
unfolding colours_in sites_in sites_of
few-from z c [] h f = λ d i l. absurd (omega arith)
few-from z c (w ∷ ws) h f = go (step z w ws h).1 (λ y e j g. few-from y e ws j g)
  where
    first : in_order 1 ws ≡ true → Few (suc c) (sites_in (suc c) ws) (colours_in ws) →
        Few c (sites_in (suc c) ws) (record { bound = bits w 0 8; sites = sites_run ws } ∷ colours_in ws)
    first j ih d zero l = rw (let z : c + 0 ≡ c = omega arith in z) (few-run c ws j)
    first j ih d (suc i) l = rw (let z : c + suc i ≡ suc c + i = omega arith in z) (ih d i (omega arith))

    go : Step z w ws → ((y e : ℕ) → in_order y ws ≡ true → (y ≡ 1 → 0 < e) → Few e (sites_in e ws) (colours_in ws)) → Few c (sites_in c (w ∷ ws)) (colours_in (w ∷ ws))
    go (Step.slot e q j) ih = rw (ne_eqb (kind_of w) 3 (λ q. omega arith), ne_eqb (kind_of w) 4 (λ q. omega arith)) (ih 0 c j λ q. absurd (omega arith))
    go (Step.colour e j) ih = rw (eq-eqb (kind_of w) 3 e) (first j (ih 1 (suc c) j λ q. omega arith))
    go (Step.site e q j) ih =
        rw (ne_eqb (kind_of w) 3 (λ q. omega arith), eq-eqb (kind_of w) 4 e)
        (λ d i l. rw (let z : eqb (c - 1) (c + i) ≡ false = ne_eqb (c - 1) (c + i) (λ r. omega (arith, f q)) in z) (ih 1 c j (λ r. f q) d i l))

pub few-sites : (ws : List ℕ) → sheet_fault ws ≡ 0 → Few 0 (sheet_in ws).sites (sheet_in ws).colours
few-sites ws h = few-from 0 0 (body_of ws) (unrefused ws h).order λ q. absurd (omega arith)
