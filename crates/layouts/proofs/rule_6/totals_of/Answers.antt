use mathlib.Core.Bool.{Bool, true, false}
use mathlib.Core.Path.{◌≡◌, refl, ap, ◌∙◌}
use Prim.Native.Nat.{◌≤◌}
use native.Mathlib.Omega.{arith}
use lib.ListN.{length}
use mir.Val.{bool_byte}
use Rattle.decoding.specs.Decoding.{site_colours_in, xs_in, ys_in}
use Rattle.labelling.specs.Layout.{ties_in}
use Rattle.layouts.specs.Model.{one_if, length_by, most_added}
use Rattle.labelling.proofs.Counted.{sum-le}
use Rattle.layouts.proofs.Loops.{sum-none, sum_more, length-le}
use Rattle.layouts.proofs.rule_6.totals_of.Goals as goal

byte-one : (b : Bool) → bool_byte b ≡ one_if b
byte-one true = refl
byte-one false = refl

byte-le : (b : Bool) → bool_byte b ≤ 1
byte-le true = omega arith
byte-le false = omega arith

pub loop-i-init : goal.loop-i-init
loop-i-init c = (omega arith, sum-none _, sum-none _)

pub overflow_add-length : goal.overflow_add-length
overflow_add-length c =
    let s = c.args.sites.now in
    let l = c.loop-i in
    let f = length-le s.head s.heights.now (xs_in s.sites.now) (ys_in s.sites.now) (site_colours_in s.sites.now) (ties_in s.ties.now) (length s.ties.now) s.low in
    let q = c.site_length-length.ensures ∙ ap (λ (b : Bool). length_by s.head b s.heights.now (xs_in s.sites.now) (ys_in s.sites.now) (ties_in s.ties.now) (length s.ties.now) l.i) c.is_first-first.ensures in
    omega (arith, l.invariant.2, c.loop-i-test.true, s.fits.few, q, f l.i, sum-le _ most_added f l.i)

pub loop-i-preserved : goal.loop-i-preserved
loop-i-preserved c =
    let s = c.args.sites.now in
    let l = c.loop-i in (
      omega (arith, l.invariant.0, byte-le c.is_first-first.result, c.from-count.ensures),
      sum_more _ l.i l.count _ l.invariant.1 (c.from-count.ensures ∙ byte-one _ ∙ ap one_if c.is_first-first.ensures),
      sum_more _ l.i l.length _ l.invariant.2 (c.site_length-length.ensures ∙ ap (λ (b : Bool). length_by s.head b s.heights.now (xs_in s.sites.now) (ys_in s.sites.now) (ties_in s.ties.now) (length s.ties.now) l.i) c.is_first-first.ensures),
    )
