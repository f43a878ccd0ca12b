-- Defined types, function types, exports and instances that are written are read again.
use Rattle.std.proofs.Common.{◌≡◌, ℕ, Some, None, Option, refl, ap, option_map, Bool, true, false, nat_lt, ◌^◌, List, [], ◌∷◌}
use Rattle.std.specs.Prelude.{⊤}
use Rattle.serde_json.specs.Data.{string}
use Rattle.serde_json.specs.Find.{as_str}
use Rattle.wcv_core.specs.declared.core_types.ValType.{ValType}
use Rattle.wcv_syntax.specs.Model.{Text, Defined_form, record_of, variant_of, tuple_of, flags_of, enum_of, simple, Func_form, Instance_form, instantiate, bag, start_item, resource_type}
use Rattle.wcv_syntax.specs.declared.component_type.ComponentDefinedType.{ComponentDefinedType}
use Rattle.wcv_syntax.specs.declared.component_type.ComponentDefinedType.TheVariants as defined
use Rattle.wcv_syntax.specs.declared.component_type.ComponentTypeRef.{ComponentTypeRef}
use Rattle.wcv_syntax.specs.declared.component_type.ComponentValType.{ComponentValType}
use Rattle.wcv_syntax.specs.declared.component_type.ComponentValType.TheVariants.{Primitive, Ty}
use Rattle.wcv_syntax.specs.declared.component_type.VariantCase.{VariantCase}
use Rattle.wcv_syntax.specs.declared.instance.ComponentExternalKind.{ComponentExternalKind}
use Rattle.wcv_syntax.specs.declared.instance.ComponentInstantiationArg.{ComponentInstantiationArg}
use Rattle.wcv_syntax.specs.declared.name.ComponentExport.{ComponentExport}
use Rattle.wcv_syntax.specs.declared.name.ComponentExternName.{ComponentExternName}
use Rattle.wcv_listing.specs.Defined.{case_of, simply, defined_of}
use Rattle.wcv_listing.specs.Fields.{array_of, null_or, index}
use Rattle.wcv_listing.specs.Forms.{func_of, resource_of, export_of, arg_of, instance_of, start_of}
use Rattle.wcv_listing.specs.Values.{value_of}
use Rattle.wcv_write.specs.Defined.{case_parts, case_data, value_or_null, result_data, simple_data, defined_data}
use Rattle.wcv_write.specs.Externs.{export_data}
use Rattle.wcv_write.specs.Indices.{numbers}
use Rattle.wcv_write.specs.Items.{arg_data, instance_data, start_data}
use Rattle.wcv_write.specs.Json.{list_data}
use Rattle.wcv_write.specs.Sayable.{IsIndex, SaysValue, SaysCoreValue, SaysAll, SaysMaybe, SaysCase, SaysSimple, SaysDefined, SaysFunc, SaysRef, SaysExport, SaysArg, SaysInstance}
use Rattle.wcv_write.specs.Types.{func_data, resource_data}
use Rattle.wcv_write.specs.Values.{value_data}
use Rattle.wcv_write.specs.declared.indices.Space.TheVariants as space
use Rattle.wcv_write.proofs.FormsAgain.{primitive_again, value_again, params_again, list_again, core_value_again, sort_again, name_again, ref_type_form_again, index-count}

-- ## Defined types

all_texts : (ts : List Text) → SaysAll (λ t. ⊤) ts
all_texts [] = tt
all_texts (t ∷ ts) = (tt, all_texts ts)

texts_again : (ts : List Text) → array_of as_str (list_data string ts) ≡ Some ts
texts_again ts = list_again as_str string (λ t. ⊤) (λ t h. refl) ts (all_texts ts)

case_of_parts : (name : Text) (v : Option ComponentValType) → SaysMaybe SaysValue v → case_of (case_parts numbers name v) ≡ Some (record { name = name; ty = v })
case_of_parts name None h = refl
case_of_parts name (Some v) h = rw (value_again v h) refl

case_again : (c : VariantCase) → SaysCase c → case_of (case_data numbers c) ≡ Some c
case_again c h = case_of_parts c.name c.ty h

null_again : (v : Option ComponentValType) → SaysMaybe SaysValue v → null_or value_of (value_or_null numbers v) ≡ Some v
unfolding value_data
null_again None h = refl
null_again (Some (Primitive p)) h = ap (λ o. option_map Some (option_map Primitive o)) (primitive_again p)
null_again (Some (Ty k)) h = let low : nat_lt k (2 ^ 32) ≡ true = h in rw low refl

result_again : (ok err : Option ComponentValType) → SaysMaybe SaysValue ok → SaysMaybe SaysValue err → defined_of (simple_data numbers (defined.Result ok err)) ≡ Some (simple (defined.Result ok err))
unfolding simple_data result_data
result_again None None h g = refl
result_again None (Some e) h g = rw (value_again e g) refl
result_again (Some v) None h g = rw (value_again v h) refl
result_again (Some v) (Some e) h g = rw (value_again v h, value_again e g) refl

simple_again : (d : ComponentDefinedType) → SaysSimple d → defined_of (simple_data numbers d) ≡ Some (simple d)
unfolding simple_data
simple_again (defined.Primitive p) h = ap (simply defined.Primitive) (primitive_again p)
simple_again (defined.List v) h = ap (simply defined.List) (value_again v h)
simple_again (defined.Map k v) h = rw (value_again k h.0, value_again v h.1) refl
simple_again (defined.FixedLengthList v n) h = let low : nat_lt n (2 ^ 32) ≡ true = h.1 in rw (value_again v h.0, low) refl
simple_again (defined.Option v) h = ap (simply defined.Option) (value_again v h)
simple_again (defined.Result ok err) h = result_again ok err h.0 h.1
simple_again (defined.Own k) h = ap (simply defined.Own) (index-count k h)
simple_again (defined.Borrow k) h = ap (simply defined.Borrow) (index-count k h)
simple_again (defined.Future v) h = ap (simply defined.Future) (null_again v h)
simple_again (defined.Stream v) h = ap (simply defined.Stream) (null_again v h)
simple_again (defined.Record fs) h = absurd (cc)
simple_again (defined.Variant cs) h = absurd (cc)
simple_again (defined.Tuple vs) h = absurd (cc)
simple_again (defined.Flags ns) h = absurd (cc)
simple_again (defined.Enum ns) h = absurd (cc)

pub defined_again : (d : Defined_form) → SaysDefined d → defined_of (defined_data numbers d) ≡ Some d
unfolding defined_data
defined_again (record_of fields) h = ap (option_map record_of) (params_again fields h)
defined_again (variant_of cases) h = ap (option_map variant_of) (list_again case_of (case_data numbers) SaysCase case_again cases h)
defined_again (tuple_of types) h = ap (option_map tuple_of) (list_again value_of (value_data numbers) SaysValue value_again types h)
defined_again (flags_of names) h = ap (option_map flags_of) (texts_again names)
defined_again (enum_of names) h = ap (option_map enum_of) (texts_again names)
defined_again (simple d) h = simple_again d h

-- ## Function types and resources

func_with : (async : Bool) (params : List (Text × ComponentValType)) (result : Option ComponentValType) → SaysFunc (record { async = async; params = params; result = result }) → func_of (func_data numbers (record { async = async; params = params; result = result })) ≡ Some (record { async = async; params = params; result = result })
unfolding func_data
func_with true params None h = rw (params_again params h.0) refl
func_with true params (Some v) h = rw (params_again params h.0, value_again v h.1) refl
func_with false params None h = rw (params_again params h.0) refl
func_with false params (Some v) h = rw (params_again params h.0, value_again v h.1) refl

pub func_again : (f : Func_form) → SaysFunc f → func_of (func_data numbers f) ≡ Some f
func_again f h = func_with f.async f.params f.result h

pub resource_again : (rep : ValType) (dtor : Option ℕ) → SaysCoreValue rep → SaysMaybe IsIndex dtor → resource_of (resource_data numbers rep dtor) ≡ Some (resource_type rep dtor)
unfolding resource_data
resource_again rep None h g = rw (core_value_again rep h) refl
resource_again rep (Some k) h g = let low : nat_lt k (2 ^ 32) ≡ true = g in rw (core_value_again rep h, low) refl

-- ## Exports and instances

export_with : (n : ComponentExternName) (kind : ComponentExternalKind) (k : ℕ) (ty : Option ComponentTypeRef) → IsIndex k → SaysMaybe SaysRef ty → export_of (export_data numbers (record { name = n; kind = kind; index = k; ty = ty })) ≡ Some (record { name = n; kind = kind; index = k; ty = ty })
unfolding export_data
export_with n kind k None h g = let low : nat_lt k (2 ^ 32) ≡ true = h in rw (name_again n, sort_again kind, low) refl
export_with n kind k (Some t) h g = let low : nat_lt k (2 ^ 32) ≡ true = h in rw (name_again n, sort_again kind, low, ref_type_form_again t g) refl

pub export_again : (e : ComponentExport) → SaysExport e → export_of (export_data numbers e) ≡ Some e
export_again e h = export_with e.name e.kind e.index e.ty h.0 h.1

arg_again : (a : ComponentInstantiationArg) → SaysArg a → arg_of (arg_data numbers a) ≡ Some a
arg_again a h = let low : nat_lt a.index (2 ^ 32) ≡ true = h in rw (sort_again a.kind, low) refl

pub instance_again : (i : Instance_form) → SaysInstance i → instance_of (instance_data numbers i) ≡ Some i
unfolding instance_data
instance_again (instantiate c args) h = let low : nat_lt c (2 ^ 32) ≡ true = h.0 in rw (low, list_again arg_of (arg_data numbers) SaysArg arg_again args h.1) refl
instance_again (bag es) h = ap (option_map bag) (list_again export_of (export_data numbers) SaysExport export_again es h)

indices_again : (ks : List ℕ) → SaysAll IsIndex ks → array_of index (list_data (numbers space.Value) ks) ≡ Some ks
indices_again ks h = list_again index (numbers space.Value) IsIndex index-count ks h

pub start_again : (f : ℕ) (args : List ℕ) (results : ℕ) → IsIndex f → SaysAll IsIndex args → IsIndex results → start_of (start_data numbers f args results) ≡ Some (start_item f args results)
unfolding start_data
start_again f args results h g l = let low : nat_lt f (2 ^ 32) ≡ true = h in let less : nat_lt results (2 ^ 32) ≡ true = l in rw (low, indices_again args g, less) refl
