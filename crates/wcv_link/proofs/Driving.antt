-- States that calls on one state reach, where nothing stands around it.
use Rattle.std.proofs.Common.{◌≡◌, List, [], ◌∷◌, true, false, refl}
use Rattle.std.proofs.lemmas.Bool.{false≢true}
use Rattle.wcv_core.specs.Names.{Place, deeper}
use Rattle.wcv_syntax.specs.Model.{Form, core_type_item, core_module_item, core_instance_item, type_item, import_item, export_item, component_item, instance_item, alias_item, start_item, canon_item, defined_type, func_type, component_type, instance_type, resource_type}
use Rattle.wcv_types.specs.Arena.{Arena}
use Rattle.wcv_lower.specs.Checks.{IsFree}
use Rattle.wcv_lower.specs.Growth.{is_plain, left_checks}
use Rattle.wcv_lower.specs.Trees.{Tree_context}
use Rattle.wcv_spaces.specs.Contents.{Contents, context_of}
use Rattle.wcv_spaces.specs.Promises.{Grew, Keeps}
use Rattle.wcv_link.specs.Reached.{IsReached}
use Rattle.wcv_link.proofs.Reaching.{reached_behind}
use Rattle.wcv_link.proofs.Steps.{OneStep, one_step, item_taken}
use Rattle.wcv_link.specs.Progress.{TakesItem}

plain_step : (f : Form) → is_plain f ≡ true → OneStep f
plain_step (type_item (defined_type d)) e = record { read = λ fs k p s. refl; causes = λ fs k p s. refl; whole = λ fs names p s. tt }
plain_step (type_item (func_type d)) e = record { read = λ fs k p s. refl; causes = λ fs k p s. refl; whole = λ fs names p s. tt }
plain_step (type_item (resource_type rep dtor)) e = record { read = λ fs k p s. refl; causes = λ fs k p s. refl; whole = λ fs names p s. tt }
plain_step (type_item (component_type ds)) e = absurd (false≢true e)
plain_step (type_item (instance_type ds)) e = absurd (false≢true e)
plain_step (component_item is end) e = absurd (false≢true e)
plain_step (core_type_item t) e = one_step (core_type_item t) refl
plain_step (core_module_item ds) e = one_step (core_module_item ds) refl
plain_step (core_instance_item i) e = one_step (core_instance_item i) refl
plain_step (import_item i) e = one_step (import_item i) refl
plain_step (export_item x) e = one_step (export_item x) refl
plain_step (instance_item i) e = one_step (instance_item i) refl
plain_step (alias_item a) e = one_step (alias_item a) refl
plain_step (start_item n args results) e = one_step (start_item n args results) refl
plain_step (canon_item c) e = one_step (canon_item c) refl

-- behind a call that added an item
pub reached_grown : (a b : Arena) (s s' : Contents) (f : Form) → IsReached a (s ∷ []) → is_plain f ≡ true → IsFree (left_checks (context_of a s) f) → Keeps a b s s' → ((outer : List Tree_context) (p : Place) → Grew a b outer p s s' f) → IsReached b (s' ∷ [])
reached_grown a b s s' f h e left keeps grew =
    let t : TakesItem a b s s' f = item_taken a b s s' f (plain_step f e) left grew keeps in
    let g = t.grew [] (deeper h.place h.position) in
    reached_behind a b (s ∷ []) (s' ∷ []) f h keeps.arena keeps.features (g.names, g.given, g.free, g.grown)
