-- `sweeping::sweep` meets its contract: the run is that of the node, written and listed. Assumes nothing.
use Rattle.std.proofs.Common.{arith, ap₂, length, sym, List, ℕ, ◌+◌, ◌∙◌, ◌≡◌}
use Rattle.std.proofs.lemmas.Bool.{not_from_true}
use Rattle.marking.proofs.Listed.{leaves-as, marked-is, told-bare}
use Rattle.marking.specs.Listed.{span}
use Rattle.marking.specs.Marks.{swept_at}
use Rattle.rowset.specs.Sets.{is_in_lem}
use Rattle.sweeping.proofs.sweep.Goals as goal
use borrow.Author.Tests.{eqb-true, not-false}

-- its run is the node's, whose start and count the code has read
node-run : (index : List ℕ) {s n s' n' : ℕ} → s ≡ s' → n ≡ n' → span (swept_at index) (s + 1) (s + n) ≡ span (swept_at index) (s' + 1) (s' + n')
node-run index e q = ap₂ (λ (s n : ℕ). span (swept_at index) (s + 1) (s + n)) e q

pub sweep_bytes-requires-clause-lo_le_hi : goal.sweep_bytes-requires-clause-lo_le_hi
sweep_bytes-requires-clause-lo_le_hi c =
    let nd = c.requires.in_shape.node c.args.k c.requires.k_bound.0 in
    (omega (arith, nd.some), omega (arith, nd.run), c.requires.k_bound.1)

pub sweep_list-requires-clause-lo_le_hi : goal.sweep_list-requires-clause-lo_le_hi
sweep_list-requires-clause-lo_le_hi c =
    let nd = c.requires.in_shape.node c.args.k c.requires.k_bound.0 in
    (omega (arith, nd.some), omega (arith, nd.run))

pub returns-then-not-is_empty : goal.returns-then-not-is_empty
returns-then-not-is_empty c =
    leaves-as (is_in_lem c.args.withdrawn.now) (λ (i : ℕ). 0) (node-run c.args.index.now c.node_start-start.ensures.0 c.node_count.ensures.0)
    (record { bytes = c.sweep_bytes.ensures ∙ marked-is _ _ _ _ _; rows = c.sweep_list.ensures })

pub returns-else-not-is_empty : goal.returns-else-not-is_empty
returns-else-not-is_empty c =
    let none : length c.args.list.now ≡ 0 = eqb-true _ _ (sym c.is_empty.ensures ∙ not-false _ (not_from_true _ c.if-not-is_empty.false)) in
    leaves-as (is_in_lem c.args.withdrawn.now) (λ (i : ℕ). 0) (node-run c.args.index.now c.node_start-start.ensures.0 c.node_count.ensures.0)
    (record { bytes = c.sweep_bytes.ensures ∙ marked-is _ _ _ _ _; rows = told-bare (λ (i : ℕ). 0) _ c.args.list.now none })
