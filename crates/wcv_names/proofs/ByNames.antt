-- Names of resources are looked at by what they are and which there are, in no order.
use Rattle.std.proofs.Common.{◌≡◌, List, [], ◌∷◌, Bool, ◌&&◌, Option, Some, None, refl, ap, ◌∙◌}
use Rattle.std.specs.Prelude.{not}
use Rattle.wcv_core.specs.Label.{is_among}
use Rattle.wcv_core.specs.declared.error.ErrorKind.TheVariants as kind
use Rattle.wcv_core.specs.declared.features.WasmFeatures.{WasmFeatures}
use Rattle.wcv_syntax.specs.ExternName.{Form, item, constructor, method, static, interface}
use Rattle.wcv_syntax.specs.FormOf.{form_of}
use Rattle.wcv_types.specs.Tree.{Text, Extern_name, nothing, primitive, resource, defined, func, instance, component, type_entity, core_module, core_instance, core_type, core_item, node}
use Rattle.wcv_types.specs.Unfold.{Type_tree}
use Rattle.wcv_names.specs.Externs.{breaks_rule, conflicts, entry_names, is_instance_tree, name_checks}
use Rattle.wcv_names.specs.ResourceNames.{Reference, Resource_names}
use Rattle.wcv_names.specs.Rules.{Entries, Params, function_fits, fits, is_paired, is_used_so, params, gives}
use Rattle.wcv_names.specs.WholeNames.{is_bad_name, lacks_feature}

module _ (rs : List (Reference × Text)) (ns ms : List Text) (same : (t : Text) → is_among t ns ≡ is_among t ms) where
  abbrev N : Resource_names
  N = record { references = rs; names = ns }

  abbrev M : Resource_names
  M = record { references = rs; names = ms }

  function_fits-same : (f : Form) (async : Bool) (ps : Params) (g : Type_tree) → function_fits N f async ps g ≡ function_fits M f async ps g
  function_fits-same (item a l) async ps g = refl
  function_fits-same (constructor r) async ps g = refl
  function_fits-same (method a r l) async ps g = refl
  function_fits-same (static a r l) async ps g = ap (λ (b : Bool). b && is_used_so a async ps g) (same r)
  function_fits-same (interface n p i v) async ps g = refl

  fits-same : (f : Form) (t : Type_tree) → fits N f t ≡ fits M f t
  fits-same f (node (func i b) ps) = function_fits-same f b (params ps) (gives ps)
  fits-same f (node nothing ps) = refl
  fits-same f (node (primitive q) ps) = refl
  fits-same f (node (resource r s) ps) = refl
  fits-same f (node (defined i k) ps) = refl
  fits-same f (node (instance i own) ps) = refl
  fits-same f (node (component i ins outs) ps) = refl
  fits-same f (node type_entity ps) = refl
  fits-same f (node (core_module i n) ps) = refl
  fits-same f (node (core_instance i n) ps) = refl
  fits-same f (node (core_type k) ps) = refl
  fits-same f (node (core_item e) ps) = refl

  breaks-same : (es : Entries) (o : Option Form) (t : Type_tree) → breaks_rule N es o t ≡ breaks_rule M es o t
  breaks-same es None t = refl
  breaks-same es (Some f) t = ap (λ (b : Bool). not (b && is_paired es f t)) (fits-same f t)

  checks-same : (fs : WasmFeatures) (es : Entries) (n : Extern_name) (t : Type_tree) → name_checks N fs es n t ≡ name_checks M fs es n t
  checks-same fs es n t =
      ap (λ (b : Bool). (kind.Name, is_bad_name (is_instance_tree t) n) ∷ (kind.Feature, lacks_feature fs n) ∷ (kind.MethodName, b) ∷ (kind.Conflict, conflicts (entry_names es) n.name) ∷ [])
      (breaks-same es (form_of n.name) t)

pub name_checks-same : (ns ms : Resource_names) (fs : WasmFeatures) (es : Entries) (n : Extern_name) (t : Type_tree) → ns.references ≡ ms.references → ((x : Text) → is_among x ns.names ≡ is_among x ms.names) →
    name_checks ns fs es n t ≡ name_checks ms fs es n t
name_checks-same ns ms fs es n t e h =
    ap (λ (rs : List (Reference × Text)). name_checks (record { references = rs; names = ns.names }) fs es n t) e ∙ checks-same ms.references ns.names ms.names h fs es n t
