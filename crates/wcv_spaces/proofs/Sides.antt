-- What holds of each space, each core space and each side, by cases.
use Rattle.std.proofs.Common.{◌≡◌, List, [], ◌∷◌, ◌++◌, refl, false}
use Rattle.wcv_lower.specs.Context.{Space, in_types, in_funcs, in_values, in_instances, in_components, Core_space, core_types, core_funcs, core_tags, core_modules, core_instances, core_memories, core_tables, core_globals, Side, importing, exporting, same_space, same_core_space}
use Rattle.wcv_spaces.specs.Contents.{SpaceLists, Id, Core_id, ids, core_ids, push_id, push_core}

pub each_space : (P : Space → Type 0) → P in_types → P in_funcs → P in_values → P in_instances → P in_components → (k : Space) → P k
each_space P t f v i c in_types = t
each_space P t f v i c in_funcs = f
each_space P t f v i c in_values = v
each_space P t f v i c in_instances = i
each_space P t f v i c in_components = c

pub each_core : (P : Core_space → Type 0) → P core_types → P core_funcs → P core_tags → P core_modules → P core_instances → P core_memories → P core_tables → P core_globals → (k : Core_space) → P k
each_core P a b c d e f g h core_types = a
each_core P a b c d e f g h core_funcs = b
each_core P a b c d e f g h core_tags = c
each_core P a b c d e f g h core_modules = d
each_core P a b c d e f g h core_instances = e
each_core P a b c d e f g h core_memories = f
each_core P a b c d e f g h core_tables = g
each_core P a b c d e f g h core_globals = h

pub each_side : (P : Side → Type 0) → P importing → P exporting → (d : Side) → P d
each_side P i e importing = i
each_side P i e exporting = e

-- where one more entry joined a space, that space has one more and the others are as they were
pub ids_push : (P : (j : Space) → List (Id j) → Type 0) (k : Space) (x : Id k) (s : SpaceLists) → ((j : Space) → same_space j k ≡ false → P j (ids j s)) → P k (ids k s ++ x ∷ []) → (j : Space) → P j (ids j (push_id k x s))
ids_push P in_types x s h d = each_space (λ j. P j (ids j (push_id in_types x s))) d (h in_funcs refl) (h in_values refl) (h in_instances refl) (h in_components refl)
ids_push P in_funcs x s h d = each_space (λ j. P j (ids j (push_id in_funcs x s))) (h in_types refl) d (h in_values refl) (h in_instances refl) (h in_components refl)
ids_push P in_values x s h d = each_space (λ j. P j (ids j (push_id in_values x s))) (h in_types refl) (h in_funcs refl) d (h in_instances refl) (h in_components refl)
ids_push P in_instances x s h d = each_space (λ j. P j (ids j (push_id in_instances x s))) (h in_types refl) (h in_funcs refl) (h in_values refl) d (h in_components refl)
ids_push P in_components x s h d = each_space (λ j. P j (ids j (push_id in_components x s))) (h in_types refl) (h in_funcs refl) (h in_values refl) (h in_instances refl) d

pub core_push : (k : Space) (x : Id k) (s : SpaceLists) (j : Core_space) → core_ids j (push_id k x s) ≡ core_ids j s
core_push in_types x s = each_core (λ j. core_ids j (push_id in_types x s) ≡ core_ids j s) refl refl refl refl refl refl refl refl
core_push in_funcs x s = each_core (λ j. core_ids j (push_id in_funcs x s) ≡ core_ids j s) refl refl refl refl refl refl refl refl
core_push in_values x s = each_core (λ j. core_ids j (push_id in_values x s) ≡ core_ids j s) refl refl refl refl refl refl refl refl
core_push in_instances x s = each_core (λ j. core_ids j (push_id in_instances x s) ≡ core_ids j s) refl refl refl refl refl refl refl refl
core_push in_components x s = each_core (λ j. core_ids j (push_id in_components x s) ≡ core_ids j s) refl refl refl refl refl refl refl refl

-- so of core spaces
pub core_ids_push : (P : (j : Core_space) → List (Core_id j) → Type 0) (k : Core_space) (x : Core_id k) (s : SpaceLists) → ((j : Core_space) → same_core_space j k ≡ false → P j (core_ids j s)) → P k (core_ids k s ++ x ∷ []) → (j : Core_space) → P j (core_ids j (push_core k x s))
core_ids_push P core_types x s h d = each_core (λ j. P j (core_ids j (push_core core_types x s))) d (h core_funcs refl) (h core_tags refl) (h core_modules refl) (h core_instances refl) (h core_memories refl) (h core_tables refl) (h core_globals refl)
core_ids_push P core_funcs x s h d = each_core (λ j. P j (core_ids j (push_core core_funcs x s))) (h core_types refl) d (h core_tags refl) (h core_modules refl) (h core_instances refl) (h core_memories refl) (h core_tables refl) (h core_globals refl)
core_ids_push P core_tags x s h d = each_core (λ j. P j (core_ids j (push_core core_tags x s))) (h core_types refl) (h core_funcs refl) d (h core_modules refl) (h core_instances refl) (h core_memories refl) (h core_tables refl) (h core_globals refl)
core_ids_push P core_modules x s h d = each_core (λ j. P j (core_ids j (push_core core_modules x s))) (h core_types refl) (h core_funcs refl) (h core_tags refl) d (h core_instances refl) (h core_memories refl) (h core_tables refl) (h core_globals refl)
core_ids_push P core_instances x s h d = each_core (λ j. P j (core_ids j (push_core core_instances x s))) (h core_types refl) (h core_funcs refl) (h core_tags refl) (h core_modules refl) d (h core_memories refl) (h core_tables refl) (h core_globals refl)
core_ids_push P core_memories x s h d = each_core (λ j. P j (core_ids j (push_core core_memories x s))) (h core_types refl) (h core_funcs refl) (h core_tags refl) (h core_modules refl) (h core_instances refl) d (h core_tables refl) (h core_globals refl)
core_ids_push P core_tables x s h d = each_core (λ j. P j (core_ids j (push_core core_tables x s))) (h core_types refl) (h core_funcs refl) (h core_tags refl) (h core_modules refl) (h core_instances refl) (h core_memories refl) d (h core_globals refl)
core_ids_push P core_globals x s h d = each_core (λ j. P j (core_ids j (push_core core_globals x s))) (h core_types refl) (h core_funcs refl) (h core_tags refl) (h core_modules refl) (h core_instances refl) (h core_memories refl) (h core_tables refl) d

pub space_push : (k : Core_space) (x : Core_id k) (s : SpaceLists) (j : Space) → ids j (push_core k x s) ≡ ids j s
space_push core_types x s = each_space (λ j. ids j (push_core core_types x s) ≡ ids j s) refl refl refl refl refl
space_push core_funcs x s = each_space (λ j. ids j (push_core core_funcs x s) ≡ ids j s) refl refl refl refl refl
space_push core_tags x s = each_space (λ j. ids j (push_core core_tags x s) ≡ ids j s) refl refl refl refl refl
space_push core_modules x s = each_space (λ j. ids j (push_core core_modules x s) ≡ ids j s) refl refl refl refl refl
space_push core_instances x s = each_space (λ j. ids j (push_core core_instances x s) ≡ ids j s) refl refl refl refl refl
space_push core_memories x s = each_space (λ j. ids j (push_core core_memories x s) ≡ ids j s) refl refl refl refl refl
space_push core_tables x s = each_space (λ j. ids j (push_core core_tables x s) ≡ ids j s) refl refl refl refl refl
space_push core_globals x s = each_space (λ j. ids j (push_core core_globals x s) ≡ ids j s) refl refl refl refl refl
