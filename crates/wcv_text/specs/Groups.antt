-- The lines of core groups, step by step.
use Rattle.std.specs.Prelude.{ℕ, zero, suc, List, [], ◌∷◌, sum_by, Option, Some, None}
use Rattle.wcv_core.specs.CoreForm.{Group}
use Rattle.wcv_core.specs.declared.core_types.CoreTypeId.{CoreTypeId}
use Rattle.wcv_types.specs.CoreText.{older_ids}
use Rattle.wcv_types.specs.Text.{Written, with_new_group, write_group}
use Rattle.wcv_text.specs.declared.groups.Step.{Step}
use Rattle.wcv_text.specs.declared.groups.Step.TheVariants as step

-- an id, where there is one, as a list of numbers
abbrev pub id_list : Option CoreTypeId → List ℕ
id_list None = []
id_list (Some i) = i.index ∷ []

-- what a step makes of what was written
abbrev pub done : Step → Written → Written
done (step.Visit i) w = write_group (suc i.index) w i.index
done (step.Line i) w = with_new_group w i.index

-- the last step first
abbrev pub all_done : List Step → Written → Written
all_done [] w = w
all_done (s ∷ ss) w = done s (all_done ss w)

-- how many steps a visit takes at most, where k is more than the type's id
abbrev pub visit_steps : ℕ → List Group → ℕ → ℕ
visit_steps zero gs i = 1
visit_steps (suc k) gs i = suc (suc (sum_by (visit_steps k gs) (older_ids gs i)))

-- how many steps are left
abbrev pub steps_of : List Group → Step → ℕ
steps_of gs (step.Visit i) = visit_steps (suc i.index) gs i.index
steps_of gs (step.Line i) = 1

abbrev pub all_steps : List Group → List Step → ℕ
all_steps gs ss = sum_by (steps_of gs) ss
