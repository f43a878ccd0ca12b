-- The lines of a type in order, by what each of them says.
use Rattle.std.specs.Prelude.{ℕ, ◌≡◌, List, [], drop, slice_get, Bool, cond, codes, Option, Some, None, All}
use Rattle.std.specs.List.{fold}
use Rattle.wcv_types.specs.Arena.{Arena}
use Rattle.wcv_types.specs.Entities.{entity_tree, entry_name}
use Rattle.wcv_types.specs.Standing.{HasIdentity, Stands, identity_of}
use Rattle.wcv_types.specs.Text.{Written, entry_line, has_line}
use Rattle.wcv_types.specs.Tree.{Text}
use Rattle.wcv_types.specs.Unfold.{Type_tree, tree_at, trees}
use Rattle.wcv_types.specs.declared.component_type.ComponentType.{ComponentType}
use Rattle.wcv_types.specs.declared.ids.Part.{Part}
use Rattle.wcv_types.specs.declared.ids.ResourceId.{ResourceId}
use Rattle.wcv_types.specs.declared.item_map.ComponentItem.{ComponentItem}
use Rattle.wcv_text.specs.Entries.{write_path}
use Rattle.wcv_text.specs.EntryList.{write_items}
use Rattle.wcv_text.specs.Nodes.{items_at, own_line}
use Rattle.wcv_text.specs.Numbers.{so_far}
use Rattle.wcv_text.specs.declared.line_list.Line.{Line}
use Rattle.wcv_text.specs.declared.line_list.Line.TheVariants as line
use Rattle.wcv_text.specs.declared.numbers.Numbers.{Numbers}

-- ## What a line says

-- the imports or the exports
abbrev pub entries_of : ComponentType → Bool → List (Text × ComponentItem)
entries_of ty exported = cond exported ty.exports ty.imports

abbrev pub entry_word : Bool → Text
entry_word exported = cond exported (codes "export ") (codes "import ")

-- the imported or the defined resources
abbrev pub paths_of : ComponentType → Bool → List (ResourceId × List ℕ)
paths_of ty defined = cond defined ty.defined_resources ty.imported_resources

abbrev pub path_word : Bool → Text
path_word defined = cond defined (codes "defined ") (codes "imported ")

-- an entry whose nodes have lines, where it is there
abbrev pub with_entry : Text → List Type_tree → Option (Text × ComponentItem) → Written → Written
with_entry word ts None w = w
with_entry word ts (Some e) w = entry_line w word (entry_name e) (entity_tree ts e.1.ty)

-- a resource with its path, where it is there
abbrev pub with_path : Text → Option (ResourceId × List ℕ) → Written → Written
with_path word None w = w
with_path word (Some p) w = write_path word p w

-- a node behind the groups that it names, where it has no line yet
abbrev pub say_node : Arena → Part → Written → Written
say_node a q w = cond (has_line w (Some (identity_of q))) w (own_line q (tree_at a q) (write_items (items_at a q) w))

-- what was written, with that line too
abbrev pub say : Arena → ComponentType → Line → Written → Written
say a ty (line.Node q) w = say_node a q w
say a ty (line.Entry exported k) w = with_entry (entry_word exported) (trees a.nodes) (slice_get (entries_of ty exported) k) w
say a ty (line.Path defined k) w = with_path (path_word defined) (slice_get (paths_of ty defined) k) w

abbrev pub say_all : Arena → ComponentType → List Line → Written → Written
say_all a ty ls w = fold (λ v l. say a ty l v) w ls

-- ## Lists of lines

-- a line of a node is one of a node of the arena
abbrev pub LineStands : Arena → Line → Type 0
LineStands a (line.Node q) = Stands a q × HasIdentity q
LineStands a (line.Entry exported k) = Unit {0}
LineStands a (line.Path defined k) = Unit {0}

-- the lines say what is to be written from the start on, and the nodes that have lines then are those that were seen
pub record Lists (a : Arena) (ty : ComponentType) (seen : Numbers) (lines : List Line) (start w : Written) : Type 0 where
  pub said : w ≡ say_all a ty lines start
  pub nodes : w.nodes ≡ (so_far seen []).nodes
  pub stand : All (LineStands a) lines

-- where the lines said what was to be written so far, they now say what the step makes of that
abbrev pub Adds : Arena → ComponentType → Numbers → List Line → Numbers → List Line → (Written → Written) → Type 0
Adds a ty seen lines more next step = (start w : Written) → Lists a ty seen lines start w → Lists a ty more next start (step w)

-- ## What is left

-- with the lines from that place on
abbrev pub rest_of : Arena → ComponentType → List Line → ℕ → Written → Written
rest_of a ty lines at w = say_all a ty (drop at lines) w
