-- The interning of a written group, and the causes for which it is refused.
use Rattle.std.specs.Prelude.{ℕ, suc, List, [], ◌∷◌, ◌++◌, length, take, Bool, true, false, ◌&&◌, not, cond, nat_lt, Option, Some, ◌≡◌, ◌⊎◌}
use Rattle.std.specs.List.{range_with_len}
use Rattle.std.specs.Option.{unwrap_or}
use Rattle.wcv_core.specs.Checks.{Checks, all_checks}
use Rattle.wcv_core.specs.CoreFeatures.{group_needs}
use Rattle.wcv_core.specs.CoreForm.{Group}
use Rattle.wcv_core.specs.CoreGroups.{total, id_of}
use Rattle.wcv_core.specs.CoreRules.{type_checks}
use Rattle.wcv_core.specs.CoreTable.{with_group, limit_checks}
use Rattle.wcv_core.specs.CoreWritten.{Core_entry, index_checks, closed_group}
use Rattle.wcv_core.specs.Refusal.{error_kind}
use Rattle.wcv_core.specs.declared.core_types.SuperType.{SuperType}
use Rattle.wcv_core.specs.declared.core_types.SuperType.TheVariants as super
use Rattle.wcv_core.specs.declared.error.Error.{Error}
use Rattle.wcv_core.specs.declared.error.ErrorKind.TheVariants as kind
use Rattle.wcv_core.specs.declared.features.WasmFeatures.{WasmFeatures}

-- ## What is seen in the group alone

-- the type with index k names its supertype by an index that is not below k
abbrev pub is_late : ℕ → Option SuperType → Bool
is_late k (Some (super.Index i)) = not (nat_lt i k)
is_late k _ = false

-- the supertypes of a group are late, whose first type has the index k
abbrev pub order_checks : ℕ → Group → Checks
order_checks k [] = []
order_checks k (s ∷ ss) = (kind.CoreType, is_late k s.supertype) ∷ order_checks (suc k) ss

-- a group that is added behind these entries, over a table of n types
abbrev pub written_checks : WasmFeatures → ℕ → List Core_entry → Group → Checks
written_checks fs n es w = group_needs fs w ++ (all_checks (index_checks n es (length w)) w ++ order_checks (length es) w)

-- ## What is seen in the table

-- the id of the group's first type, once the table has the group
abbrev pub first_id : List Group → Group → ℕ
first_id gs g = unwrap_or (id_of gs g) (total gs)

-- the ids of its types
abbrev pub group_ids : List Group → Group → List ℕ
group_ids gs g = range_with_len (first_id gs g) (length g)

-- a group with a type, in closed form: its types keep the rules in the table that has it
abbrev pub rule_checks : List Group → Group → Checks
rule_checks gs g = limit_checks gs g ++ all_checks (type_checks (with_group gs g)) (group_ids gs g)

-- an empty group is not interned
abbrev pub table_checks : List Group → Group → Checks
table_checks gs [] = []
table_checks gs (s ∷ ss) = rule_checks gs (s ∷ ss)

abbrev pub grown : List Group → Group → List Group
grown gs [] = gs
grown gs (s ∷ ss) = with_group gs (s ∷ ss)

-- ## All causes

abbrev pub is_free : Checks → Bool
is_free [] = true
is_free (c ∷ cs) = not c.1 && is_free cs

-- the first checks, and the others where none of the first is a cause
abbrev pub then_checks : Checks → Checks → Checks
then_checks cs ds = cs ++ cond (is_free cs) ds []

-- there is a closed form only where no cause is seen in the group alone
abbrev pub group_checks : WasmFeatures → List Group → List Core_entry → Group → Checks
group_checks fs gs es w = then_checks (written_checks fs (total gs) es w) (table_checks gs (closed_group es w))

-- ## What a space becomes

-- a space with these types behind the others
abbrev pub with_types : {S : Type 0} → (S → ℕ → S) → S → List ℕ → S
with_types add s [] = s
with_types add s (i ∷ is) = with_types add (add s i) is

-- memory ended after some of them
abbrev pub IsBegun : {S : Type 0} → (S → ℕ → S) → (S → S) → S → List ℕ → S → Type 0
IsBegun add failed s is t = (k : ℕ) × (t ≡ failed (with_types add s (take k is)))

-- after a refusal nothing has changed; if memory ended, the table may have the group, and the space some of its types
abbrev pub IsLeft : {M : Type 0} {S : Type 0} → (S → ℕ → S) → (S → S) → S → S → List Group → List Group → Group → Error M → Type 0
IsLeft add failed s t gs hs g e = ((t ≡ s) × (hs ≡ gs)) ⊎ ((error_kind e ≡ kind.OutOfMemory) × ((hs ≡ grown gs g) × IsBegun add failed s (group_ids gs g) t))
