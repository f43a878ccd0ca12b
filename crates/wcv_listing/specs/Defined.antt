-- Defined types.
use Rattle.std.specs.Prelude.{ℕ, List, [], ◌∷◌, map, if◌then◌else◌, Option, None, option_map, option_and_then, codes}
use Rattle.serde_json.specs.Data.{Data}
use Rattle.serde_json.specs.Find.{as_array, as_str, get}
use Rattle.wcv_syntax.specs.declared.component_type.ComponentDefinedType.{ComponentDefinedType}
use Rattle.wcv_syntax.specs.declared.component_type.ComponentDefinedType.TheVariants as defined
use Rattle.wcv_syntax.specs.declared.component_type.VariantCase.{VariantCase}
use Rattle.wcv_syntax.specs.Model.{Text, Defined_form, record_of, variant_of, tuple_of, flags_of, enum_of, simple}
use Rattle.wcv_listing.specs.Fields.{both, named, has_only, only_key, index, pair_of, one_or_two_of, array_of, text_or, null_or, optional}
use Rattle.wcv_listing.specs.Values.{primitive_named, value_of, params_of}

-- [name] or [name, value type]
abbrev pub case_of : Data → Option VariantCase
case_of d = option_and_then (λ p. both (λ name ty. record { name = name; ty = ty }) (as_str p.0) (optional value_of p.1)) (option_and_then one_or_two_of (as_array d))

-- [key type, value type]
abbrev pub map_of : Data → Option Defined_form
map_of d = option_and_then (λ p. both (λ k v. simple (defined.Map k v)) (value_of p.0) (value_of p.1)) (option_and_then pair_of (as_array d))

-- [value type, length]
abbrev pub fixed_list_of : Data → Option Defined_form
fixed_list_of d = option_and_then (λ p. both (λ v n. simple (defined.FixedLengthList v n)) (value_of p.0) (index p.1)) (option_and_then pair_of (as_array d))

-- {"ok": value type, "err": value type}, each absent or there
abbrev pub result_of : Data → Option Defined_form
result_of d =
    if has_only (codes "ok" ∷ codes "err" ∷ []) d then both (λ ok err. simple (defined.Result ok err)) (optional value_of (get (codes "ok") d)) (optional value_of (get (codes "err") d)) else None

-- a defined type that holds no vector
abbrev pub simply : {X : Type 0} → (X → ComponentDefinedType) → Option X → Option Defined_form
simply make x = option_map (λ part. simple (make part)) x

-- the forms by their names, and what stands under each
abbrev pub defined_forms : List (List ℕ × (Data → Option Defined_form))
defined_forms =
    (codes "record", λ d. option_map record_of (params_of d))
    ∷ (codes "variant", λ d. option_map variant_of (array_of case_of d))
    ∷ (codes "list", λ d. simply defined.List (value_of d))
    ∷ (codes "map", map_of)
    ∷ (codes "fixed-list", fixed_list_of)
    ∷ (codes "tuple", λ d. option_map tuple_of (array_of value_of d))
    ∷ (codes "flags", λ d. option_map flags_of (array_of as_str d))
    ∷ (codes "enum", λ d. option_map enum_of (array_of as_str d))
    ∷ (codes "option", λ d. simply defined.Option (value_of d))
    ∷ (codes "result", result_of)
    ∷ (codes "own", λ d. simply defined.Own (index d))
    ∷ (codes "borrow", λ d. simply defined.Borrow (index d))
    ∷ (codes "future", λ d. simply defined.Future (null_or value_of d))
    ∷ (codes "stream", λ d. simply defined.Stream (null_or value_of d)) ∷ []

-- what stands under a name, by the row of that name
abbrev pub form_by : List (List ℕ × (Data → Option Defined_form)) → Text → Data → Option Defined_form
form_by rows name d = option_and_then (λ read. read d) (named rows name)

abbrev pub form_of : Text → Data → Option Defined_form
form_of name d = form_by defined_forms name d

-- an object whose only key is the name of a form
abbrev pub object_of : Data → Option Defined_form
object_of d = option_and_then (λ name. option_and_then (form_of name) (get name d)) (only_key (map (λ row. row.0) defined_forms) d)

-- the name of a primitive, or {FORM: body}
abbrev pub defined_of : Data → Option Defined_form
defined_of d = text_or (λ name. simply defined.Primitive (primitive_named name)) (object_of d) (as_str d)
