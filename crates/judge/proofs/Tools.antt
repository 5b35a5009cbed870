-- What a tool over lawful stored sheets gives that writes into an area, and what it leaves there, by how its calls end. Assumes nothing.
use mathlib.Core.Path.{◌≡◌, refl, sym, ◌∙◌}
use mathlib.Core.List.{List, ◌++◌}
use Prim.Native.Nat.{ℕ, ◌≤◌}
use native.Mathlib.Omega.{arith}
use lib.ListN.{drop}
use borrow.Author.Tests.{eq-eqb}
use Rattle.std.specs.Prelude.{Ok, Err}
use Rattle.labelling.specs.Layout.{stored_fault}
use Rattle.labelling.specs.Tools.{tool_fault, tool_area}
use Rattle.labelling.proofs.Refusals.{tool-chain}
use Rattle.labelling.proofs.Tools.{fault-stored, area-refused, area-written, unrefused}
use Rattle.faults.specs.declared.refusal.Refusal.{Refusal}
use Rattle.faults.specs.Faults.{area_fault}
use Rattle.faults.specs.Refusals.{number_of}
use Rattle.faults.specs.Results.{written_of, written_post}
use Rattle.faults.proofs.Refusals.{number-above}
use Rattle.faults.proofs.Results.{post-refused, post-written}

module _ (ws : List ℕ) (size lent : ℕ) (text area : List ℕ) where
  -- a refusal of the tool
  module _ (r : Refusal) (e : number_of r ≡ tool_fault ws size lent) where
    refused_value : written_of (Err r) ≡ written_post (tool_fault ws size lent) size
    refused_value = post-refused _ size r e

    refused-area : area ≡ tool_area (tool_fault ws size lent) size text area
    refused-area = sym (area-refused _ size text area (λ q. omega (arith, number-above r, e, q)))

  -- the stored sheet's
  module _ (r : Refusal) (e : number_of r ≡ stored_fault ws) where
    stored-fault : number_of r ≡ tool_fault ws size lent
    stored-fault = e ∙ sym (fault-stored ws size lent (λ z. omega (arith, number-above r, e, z)))

    pub stored-value : written_of (Err r) ≡ written_post (tool_fault ws size lent) size
    stored-value = refused_value r stored-fault

    pub stored-area : area ≡ tool_area (tool_fault ws size lent) size text area
    stored-area = refused-area r stored-fault

  module _ (u : 0 ≡ stored_fault ws) {n : ℕ} (q : n ≡ area_fault size lent) where
    pub lent-fault : n ≡ tool_fault ws size lent
    lent-fault = q ∙ sym (tool-chain ws size lent ∙ rw (eq-eqb (stored_fault ws) 0 (sym u)) refl)

  -- the area's: it is short
  module _ (u : 0 ≡ stored_fault ws) (r : Refusal) (q : number_of r ≡ area_fault size lent) where
    pub short-value : written_of (Err r) ≡ written_post (tool_fault ws size lent) size
    short-value = refused_value r (lent-fault u q)

    pub short-area : area ≡ tool_area (tool_fault ws size lent) size text area
    short-area = refused-area r (lent-fault u q)

  -- none
  module _ (u : 0 ≡ stored_fault ws) (q : 0 ≡ area_fault size lent) where
    pub fits-in : size ≤ lent
    fits-in = (unrefused ws size lent (sym (lent-fault u q))).1

    pub wrote-value : (n : ℕ) → n ≡ size → written_of (Ok n) ≡ written_post (tool_fault ws size lent) size
    wrote-value n e = post-written _ size n (sym (lent-fault u q)) e

    pub wrote-area : {new : List ℕ} → new ≡ text ++ drop size area → new ≡ tool_area (tool_fault ws size lent) size text area
    wrote-area e = e ∙ sym (area-written _ size text area (sym (lent-fault u q)))
