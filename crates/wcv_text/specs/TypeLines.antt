-- The text of a component type that goes out line after line.
use Rattle.std.specs.Prelude.{ℕ, ◌-◌, ◌≡◌, ◌++◌, length, All}
use Rattle.wcv_types.specs.ComponentTrees.{ComponentStands}
use Rattle.wcv_types.specs.Tree.{Text}
use Rattle.wcv_text.specs.LineList.{LineStands, rest_of}
use Rattle.wcv_text.specs.Numbers.{so_far}
use Rattle.wcv_text.specs.declared.type_lines.TypeLines.{TypeLines}

-- how many lines are left
abbrev pub lines_left : TypeLines → ℕ
lines_left l = length l.lines.items - l.at

-- the type and its lines are of the arena
pub record LinesStand (l : TypeLines) : Type 0 where
  pub type : ComponentStands l.types.now l.ty.now
  pub lines : All (LineStands l.types.now) l.lines.items

-- what was said so far, and the lines that are left behind it, are the whole text
pub record Leads (l : TypeLines) (said whole : Text) : Type 0 where
  -- what was said before the type's first line, and its lines so far
  pub before : Text
  pub lines : Text
  pub said_is : said ≡ before ++ lines
  pub whole_is : whole ≡ before ++ (rest_of l.types.now l.ty.now l.lines.items l.at (so_far l.numbers lines)).text
