-- A root without items.
use Rattle.std.proofs.Common.{◌≡◌, ℕ, [], Some, sym, subst, arith}
use Rattle.std.specs.Prelude.{Contains}
use Rattle.wcv_core.specs.Names.{Name}
use Rattle.wcv_core.specs.declared.features.WasmFeatures.{WasmFeatures}
use Rattle.wcv_syntax.specs.Model.{no_items}
use Rattle.wcv_types.specs.Tree.{Text, component_type}
use Rattle.wcv_types.specs.Unfold.{Type_tree}
use Rattle.wcv_types.proofs.Lists.{some-inj}
use Rattle.wcv_lower.specs.Ending.{type_at_end}
use Rattle.wcv_lower.specs.Names.{introduced}
use Rattle.wcv_lower.specs.Trees.{Tree_stack, node_tree}
use Rattle.wcv_growth.proofs.Groups.{no_more}
use Rattle.wcv_world.specs.Growth.{Arguments}
use Rattle.wcv_world.specs.Machine.{World, run_root}
use Rattle.wcv_world.specs.Naming.{naming_by_number, run_names}
use Rattle.wcv_safety.specs.Places.{IsRoot}
use Rattle.wcv_safety.specs.Safe.{IsWorld, Safe}

none-there : {B : Type 0} (n : Text) (x : Type_tree) → Contains {X = Text × Type_tree} [] (n, x) → B
none-there n x c = absurd (omega (arith, c.1))

pub empty-safe : (fs : WasmFeatures) (w : World) (r : ℕ) (t : Type_tree) (g : Name → Name) (args : Arguments) → IsWorld w → IsRoot fs r w.groups no_items t → Safe fs w g t (run_root fs naming_by_number w r no_items args)
empty-safe fs w r t g args k root = subst (λ (u : Type_tree). Safe fs w g u (run_root fs naming_by_number w r no_items args)) (some-inj typed) base
  where
    i : Name
    i = (run_names r).identity (introduced [])

    typed : Some (component_type i [] [] [] []) ≡ Some t
    typed = subst (λ (s : Tree_stack). type_at_end (node_tree i) s.top ≡ Some t) (sym root.valid.items) root.typed

    base : Safe fs w g (component_type i [] [] [] []) (run_root fs naming_by_number w r no_items args)
    base = record {
      world = record { table = k.table; supers = k.supers; numbered = k.numbered };
      later = record { tokens = no_more w.tokens; groups = no_more w.groups };
      sound = tt;
      defined = λ x. x;
      tokens = λ x e. absurd (cc);
      opens = λ n x c. none-there n x c;
    }
