-- Forms, and the roles of what a defined type is made of.
use Rattle.std.proofs.Common.{◌≡◌, ℕ, zero, suc, ◌<◌, List, [], ◌∷◌, length, map, get_or, refl, sym, ◌∙◌, arith, Some, None}
use Rattle.std.specs.Prelude.{Option, slice_get}
use Rattle.std.specs.Option.{option_map}
use Rattle.wcv_core.specs.declared.primitive.PrimitiveValType.{PrimitiveValType}
use Rattle.wcv_types.specs.Alike.{form_number, form_primitive, form_length, form_names}
use Rattle.wcv_types.specs.Rebuild.{tuple_value}
use Rattle.wcv_types.specs.Tree.{Text, Former, named, record_of, variant_of, list_of, map_of, tuple_of, option_of, result_of, own_of, borrow_of, future_of, stream_of, fixed_list_of, flags_of, enum_of, Role, here}
use Rattle.wcv_types.specs.Unfold.{value_parts}
use Rattle.wcv_types.specs.declared.shapes.ComponentDefinedType.{ComponentDefinedType}
use Rattle.wcv_types.specs.declared.shapes.ComponentDefinedType.TheVariants as d
use Rattle.wcv_types.specs.declared.shapes.ComponentValType.{ComponentValType}

-- ## Roles

tuple_role : (ts : List ComponentValType) (k : ℕ) → k < length (map tuple_value ts) → option_map (λ (q : Role × Option ComponentValType). q.0) (slice_get (map tuple_value ts) k) ≡ Some here
tuple_role [] k h = absurd (omega (arith, h))
tuple_role (t ∷ ts) zero h = refl
tuple_role (t ∷ ts) (suc k) h = tuple_role ts k (omega (arith, h))

pub plain_role : (s : ComponentDefinedType) (k : ℕ) → ((fs : _) → s ≡ d.Record fs → ⊥) → ((cs : _) → s ≡ d.Variant cs → ⊥) → k < length (value_parts s) →
    option_map (λ (q : Role × Option ComponentValType). q.0) (slice_get (value_parts s) k) ≡ Some here
plain_role (d.Record a) k f g h = absurd (f a refl)
plain_role (d.Variant a) k f g h = absurd (g a refl)
plain_role (d.Tuple a) k f g h = tuple_role a.items k h
plain_role (d.List a) zero f g h = refl
plain_role (d.List a) (suc k) f g h = absurd (omega (arith, h))
plain_role (d.FixedLengthList a b) zero f g h = refl
plain_role (d.FixedLengthList a b) (suc k) f g h = absurd (omega (arith, h))
plain_role (d.Option a) zero f g h = refl
plain_role (d.Option a) (suc k) f g h = absurd (omega (arith, h))
plain_role (d.Future a) zero f g h = refl
plain_role (d.Future a) (suc k) f g h = absurd (omega (arith, h))
plain_role (d.Stream a) zero f g h = refl
plain_role (d.Stream a) (suc k) f g h = absurd (omega (arith, h))
plain_role (d.Map a b) zero f g h = refl
plain_role (d.Map a b) (suc zero) f g h = refl
plain_role (d.Map a b) (suc (suc k)) f g h = absurd (omega (arith, h))
plain_role (d.Result a b) zero f g h = refl
plain_role (d.Result a b) (suc zero) f g h = refl
plain_role (d.Result a b) (suc (suc k)) f g h = absurd (omega (arith, h))
plain_role (d.Own a) k f g h = absurd (omega (arith, h))
plain_role (d.Borrow a) k f g h = absurd (omega (arith, h))
plain_role (d.Primitive a) k f g h = absurd (omega (arith, h))
plain_role (d.Flags a) k f g h = absurd (omega (arith, h))
plain_role (d.Enum a) k f g h = absurd (omega (arith, h))

-- ## Forms

-- a form that is no named primitive, from what is compared of it
named_or : Option PrimitiveValType → Former
named_or None = list_of
named_or (Some q) = named q

former_from : ℕ → Option PrimitiveValType → ℕ → List Text → Former
former_from k q n ns =
    get_or (named_or q ∷ record_of ∷ variant_of ∷ list_of ∷ map_of ∷ tuple_of ∷ option_of ∷ result_of ∷ own_of ∷ borrow_of ∷ future_of ∷ stream_of ∷ fixed_list_of n ∷ flags_of ns ∷ enum_of ns ∷ []) k list_of

former_back : (k : Former) → former_from (form_number k) (form_primitive k) (form_length k) (form_names k) ≡ k
unfolding former_from named_or
former_back (named a) = refl
former_back record_of = refl
former_back variant_of = refl
former_back list_of = refl
former_back map_of = refl
former_back tuple_of = refl
former_back option_of = refl
former_back result_of = refl
former_back own_of = refl
former_back borrow_of = refl
former_back future_of = refl
former_back stream_of = refl
former_back (fixed_list_of a) = refl
former_back (flags_of a) = refl
former_back (enum_of a) = refl

pub same_former : (k l : Former) → form_number k ≡ form_number l → form_primitive k ≡ form_primitive l → form_length k ≡ form_length l → form_names k ≡ form_names l → k ≡ l
same_former k l e q f s = sym (former_back k) ∙ (λ j. former_from (e j) (q j) (f j) (s j)) ∙ former_back l
