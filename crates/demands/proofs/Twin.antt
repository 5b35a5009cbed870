-- What is promised of the twin tool, an end in itself; and of one call, for the contract of crate cabi. Assumes nothing.
use mathlib.Core.List.{List}
use Prim.Native.Nat.{ℕ}
use lib.ListN.{length}
use Rattle.labelling.specs.Twin.{twin_words, TwinOf}
use Rattle.labelling.proofs.Stored.{stored-judged, stored-verdict}
use Rattle.labelling.proofs.Twin.{twin-lawful, twin-of-twin, best-not-worse}
use Rattle.faults.specs.declared.written.Written.{Written}
use Rattle.demands.specs.Demands.{WasTwinned, ServedByTwin, TwinPromised}
use Rattle.demands.proofs.Tools.{served-by-tool}

pub served-by-twin : (ws o : List ℕ) (r : Written) (o' : List ℕ) → WasTwinned ws o r o' → ServedByTwin ws o r o'
served-by-twin ws o r o' m =
    served-by-tool ws (length ws) (twin_words ws) (TwinOf ws) (λ z. let t = (twin-lawful ws (stored-judged ws z) (stored-verdict ws z)).0 in (t.long, t)) o r o' m.0 m.1

pub twin-promised : TwinPromised
twin-promised = record { served = served-by-twin; again = twin-of-twin; best = best-not-worse }
