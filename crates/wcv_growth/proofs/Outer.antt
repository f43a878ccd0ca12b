-- The end of a declared type or of a component: its context leaves the stack, and its node joins the types or the components of the context around it.
use Rattle.std.proofs.Common.{◌≡◌, List, [], ◌∷◌, ap, Some}
use Rattle.std.specs.Option.{option_map}
use Rattle.wcv_core.specs.Names.{Place}
use Rattle.wcv_core.specs.declared.features.WasmFeatures.{WasmFeatures}
use Rattle.wcv_types.proofs.Lists.{some-inj}
use Rattle.wcv_lower.specs.Context.{Kind}
use Rattle.wcv_lower.specs.Declared.{Makers, stack_of, around, closed_as, ended}
use Rattle.wcv_lower.specs.Ending.{declared_made}
use Rattle.wcv_lower.specs.Readers.{New_node}
use Rattle.wcv_lower.specs.Step.{apply}
use Rattle.wcv_lower.specs.Trees.{Tree_context, Tree_stack, tree_reader}
use Rattle.wcv_growth.proofs.Known.{mapped-some, then-some}

-- the stack around a context, and what stands in it
pub around-parts : (u t : Tree_stack) → around u ≡ Some t → u.outer ≡ t.top ∷ t.outer
around-parts u t e = go u.outer e
  where
    go : (cs : List Tree_context) → stack_of {X = tree_reader} cs u.groups ≡ Some t → cs ≡ t.top ∷ t.outer
    go [] w = cc
    go (c ∷ cs) w = ap (λ (x : Tree_stack). x.top ∷ x.outer) (some-inj w)

module _ (fs : WasmFeatures) (mk : Makers tree_reader) where
  -- one ends: its node joins the stack around it
  pub record Ends (k : Kind) (p : Place) (u v : Tree_stack) : Type 0 where
    pub stack : Tree_stack
    pub node : New_node tree_reader
    pub stood : around u ≡ Some stack
    pub made : declared_made k u.top ≡ Some node
    pub joined : apply (closed_as k (mk p) node) stack ≡ v

  pub ends : (k : Kind) (p : Place) (u v : Tree_stack) → ended k (mk p) u ≡ Some v → Ends k p u v
  ends k p u v e =
      let m = then-some (λ (t : Tree_stack). option_map (λ n. apply (closed_as k (mk p) n) t) (declared_made k u.top)) (around u) v e in
      let n = mapped-some (λ (n : New_node tree_reader). apply (closed_as k (mk p) n) m.0) (declared_made k u.top) v m.2 in
      record { stack = m.0; node = n.0; stood = m.1; made = n.1; joined = n.2 }
