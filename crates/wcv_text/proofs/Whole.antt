-- The text of a whole component type.
use Rattle.std.proofs.Common.{◌≡◌, ◌+◌, ◌<◌, List, [], ◌∷◌, ℕ, codes, drop, get_or, length, map, refl, sym, ◌∙◌, ap}
use Rattle.std.specs.Prelude.{All}
use Rattle.std.proofs.lemmas.List.{drop_more}
use Rattle.std.proofs.lemmas.List.Elements.{All-nil}
use Rattle.wcv_core.specs.Names.{Name}
use Rattle.wcv_types.specs.Arena.{Arena}
use Rattle.wcv_types.specs.ComponentTrees.{resource_path, root_tree}
use Rattle.wcv_types.specs.Entities.{entry_tree, entry_trees}
use Rattle.wcv_types.specs.Text.{Written, nothing_written, write_entries, write_paths, type_text}
use Rattle.wcv_types.specs.Tree.{Text, Parts, none, import, export, entries}
use Rattle.wcv_types.specs.Unfold.{Type_tree, trees}
use Rattle.wcv_types.specs.declared.component_type.ComponentType.{ComponentType}
use Rattle.wcv_types.specs.declared.ids.ResourceId.{ResourceId}
use Rattle.wcv_types.specs.declared.item_map.ComponentItem.{ComponentItem}
use Rattle.wcv_text.specs.Entries.{write_entry, write_list, write_path, write_path_list, write_lines}
use Rattle.wcv_text.specs.LineList.{Adds, LineStands, Lists, rest_of, say, say_all}
use Rattle.wcv_text.specs.Numbers.{so_far}
use Rattle.wcv_text.specs.declared.line_list.Line.{Line}
use Rattle.wcv_text.specs.declared.numbers.Numbers.{Numbers}

imports_written : (ts : List Type_tree) (w : Written) (es : List (Text × ComponentItem)) (rest : Parts Name Name) →
    write_entries w (entries import (entry_trees ts es) rest) ≡ write_entries (write_list (codes "import ") ts es w) rest
imports_written ts w [] rest = refl
imports_written ts w (e ∷ es) rest = imports_written ts (write_entry (codes "import ") (entry_tree ts e) w) es rest

exports_written : (ts : List Type_tree) (w : Written) (es : List (Text × ComponentItem)) → write_entries w (entries export (entry_trees ts es) none) ≡ write_list (codes "export ") ts es w
exports_written ts w [] = refl
exports_written ts w (e ∷ es) = exports_written ts (write_entry (codes "export ") (entry_tree ts e) w) es

paths_written : (word : Text) (w : Written) (ps : List (ResourceId × List ℕ)) → write_paths word w (map resource_path ps) ≡ write_path_list word ps w
paths_written word w [] = refl
paths_written word w (p ∷ ps) = paths_written word (write_path word p w) ps

pub all_said : (a : Arena) (ty : ComponentType) → type_text a.core (root_tree a ty) ≡ (write_lines a ty (nothing_written a.core)).text
all_said a ty =
    let ts : List Type_tree = trees a.nodes in
    let start : Written = nothing_written a.core in
    let listed : write_entries start (entries import (entry_trees ts ty.imports) (entries export (entry_trees ts ty.exports) none)) ≡ write_list (codes "export ") ts ty.exports (write_list (codes "import ") ts ty.imports start) =
    imports_written ts start ty.imports (entries export (entry_trees ts ty.exports) none) ∙ exports_written ts (write_list (codes "import ") ts ty.imports start) ty.exports in
    ap (λ (w : Written). w.text)
    (ap (λ (w : Written). write_paths (codes "defined ") (write_paths (codes "imported ") w (map resource_path ty.imported_resources)) (map resource_path ty.defined_resources)) listed ∙
    ap (λ (w : Written). write_paths (codes "defined ") w (map resource_path ty.defined_resources)) (paths_written (codes "imported ") _ ty.imported_resources) ∙
    paths_written (codes "defined ") _ ty.defined_resources)

-- ## The lines of the whole text

module _ (a : Arena) (ty : ComponentType) (lines : List Line) (empty seen : Numbers) (fresh : so_far empty [] ≡ nothing_written a.core) (listed : Adds a ty empty [] seen lines (write_lines a ty)) where
  all_listed : Lists a ty seen lines (nothing_written a.core) (write_lines a ty (nothing_written a.core))
  all_listed = listed (nothing_written a.core) (nothing_written a.core) (record {
    said = refl;
    nodes = sym (ap (λ (w : Written). w.nodes) fresh);
    stand = All-nil (LineStands a);
  })

  pub all_stand : All (LineStands a) lines
  all_stand = all_listed.stand

  pub all_left : (numbers : Numbers) → so_far numbers [] ≡ nothing_written a.core → type_text a.core (root_tree a ty) ≡ (rest_of a ty lines 0 (so_far numbers [])).text
  all_left numbers new = all_said a ty ∙ ap (λ (w : Written). w.text) all_listed.said ∙ ap (λ (w : Written). (say_all a ty lines w).text) (sym new)

-- the next line is said
pub next_left : (a : Arena) (ty : ComponentType) (lines : List Line) (at : ℕ) (l : Line) (old new : Numbers) (said : Text) → at < length lines → l ≡ get_or lines at l →
    say a ty l (so_far old said) ≡ so_far new (say a ty l (so_far old said)).text →
    (rest_of a ty lines at (so_far old said)).text ≡ (rest_of a ty lines (at + 1) (so_far new (say a ty l (so_far old said)).text)).text
next_left a ty lines at l old new said within is same =
    let w : Written = so_far old said in
    ap (λ (ls : List Line). (say_all a ty ls w).text) (drop_more lines at l within ∙ ap (λ (x : Line). x ∷ drop (at + 1) lines) (sym is)) ∙ ap (λ (u : Written). (say_all a ty (drop (at + 1) lines) u).text) same
