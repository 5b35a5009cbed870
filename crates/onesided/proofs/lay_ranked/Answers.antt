-- `onesided::lay_ranked` meets its contract.
use Rattle.onesided.proofs.Facts.{zeroed-same, zeros-are}
use mathlib.Core.Path.{refl, ◌∙◌}
use native.Mathlib.Omega.{arith}
use Rattle.onesided.proofs.lay_ranked.Goals as goal

pub lay_least-laid-requires : goal.lay_least-laid-requires
lay_least-laid-requires c =
    let p = c.requires in
    record { whole = omega (arith, c.fill_table.auto.work, (zeros-are c.args.sheet.now p _ refl).within); table = c.fill_table.ensures.0; answer_fits = p.answer_fits }

pub returns : goal.returns
returns c =
    let s = c.args.sheet.now in
    let p = c.requires in
    let f = c.lay_least-laid.ensures in
    let z = zeros-are s p _ c.level_size-size.ensures in
    record {
      value = f.value;
      work_after = c.zero_part.ensures ∙ z.zeros _ ∙ zeroed-same s p _ _ c.fill_table.ensures.1;
      out_after = f.out_after;
    }
