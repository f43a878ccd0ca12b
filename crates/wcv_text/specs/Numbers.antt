-- What has been written, beside the text.
use Rattle.std.specs.Prelude.{ℕ, ◌++◌, map, ◌≡◌}
use Rattle.wcv_core.specs.Names.{Name, number}
use Rattle.wcv_core.specs.declared.core_types.CoreTypeId.{CoreTypeId}
use Rattle.wcv_types.specs.Text.{Written}
use Rattle.wcv_types.specs.Tree.{Text}
use Rattle.wcv_types.specs.declared.ids.ResourceId.{ResourceId}
use Rattle.wcv_text.specs.Identity.{known}
use Rattle.wcv_text.specs.declared.numbers.Numbers.{Numbers}

-- the resource as trees have it
abbrev pub name_of : ResourceId → Name
name_of r = number r.index

-- a core group by its first id
abbrev pub first_of : CoreTypeId → ℕ
first_of i = i.index

-- what has been written, with that text
abbrev pub so_far : Numbers → Text → Written
so_far n text = record { core = n.core.now; groups = map first_of n.groups; nodes = map known n.nodes; resources = map name_of n.resources; text = text }

-- the text, behind what was handed on before it, is what has been written, behind what was said before that; and the numbers are those that were given
pub record Shows (numbers : Numbers) (before : Text × Text) (text : Text) (w : Written) : Type 0 where
  pub text_is : before.0 ++ text ≡ before.1 ++ w.text
  pub numbers_are : w ≡ so_far numbers w.text

-- where the text showed what was written so far, it now shows what the step makes of that
abbrev pub Writes : Numbers → Text → Numbers → Text → (Written → Written) → Type 0
Writes numbers text more next step = (before : Text × Text) (w : Written) → Shows numbers before text w → Shows more before next (step w)

-- a piece of a line is appended, which says the same whatever text stands before it
abbrev pub Appends : Numbers → Text → Text → (Written → Text) → Type 0
Appends numbers text next piece = (t : Text) → next ≡ text ++ piece (so_far numbers t)
