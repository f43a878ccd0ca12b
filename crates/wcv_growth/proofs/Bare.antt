-- Types of entries in which instances own nothing: what is free inside such an instance is free in it.
use Rattle.std.proofs.Common.{refl, sym, subst}
use Rattle.std.specs.Prelude.{List, [], map, ◌≡◌, All}
use Rattle.std.proofs.lemmas.List.Elements.{All-nil, All-cons}
use Rattle.wcv_core.specs.Names.{Name, Place}
use Rattle.wcv_types.proofs.Replacing.{idle-stays}
use Rattle.wcv_types.specs.FirstPath.{first_path}
use Rattle.wcv_types.specs.Tree.{Text, Head, here, label, import, export, core_import, core_export, func, instance, node, Parts, none, part, exports, owned}
use Rattle.wcv_types.specs.Unfold.{Type_tree}
use Rattle.wcv_matching.specs.Matching.{named_exports, named_imports, named_exports_in, named_imports_in}
use Rattle.wcv_matching.specs.Orderly.{EachNode, EachNodeIn}
use Rattle.wcv_lower.specs.Names.{Names, again}
use Rattle.wcv_lower.specs.NewTypes.{owned_anew, instance_tree, path_or_none}
use Rattle.wcv_lower.specs.Owned.{AllEntries}
use Rattle.wcv_lower.specs.Step.{bare}
use Rattle.wcv_lower.specs.Trees.{Tree_context, tree_reader, tree_maker}

-- it is no instance, or owns nothing
abbrev pub OwnsNothing : Type_tree → Type 0
OwnsNothing t = owned t ≡ []

stays : (names : Names) (p : Place) (t : Type_tree) → OwnsNothing t → instance_tree names p t ≡ t
stays names p (node (instance i own) ps) e =
    subst (λ (rs : List Name). instance_tree names p (node (instance i rs) ps) ≡ node (instance i rs) ps) (sym e) (idle-stays (owned_anew names p []) (λ i. refl) (λ r. refl) (node (instance i []) ps))
stays names p (node h ps) e = refl

-- so it is the instance that is made of it
pub bare-instance : (names : Names) (p : Place) (t : Type_tree) → OwnsNothing t → (tree_maker names p).instance_of t ≡ bare tree_reader t
bare-instance names p t e = λ j. record { entity = stays names p t e j; resources = map (λ r. (names.resource (again p r), path_or_none (first_path r (exports t)))) (e j) }

-- so each import and each export among the parts
abbrev pub EntriesOwnNothing : Parts Name Name → Type 0
EntriesOwnNothing none = Unit {0}
EntriesOwnNothing (part (import n) t ps) = OwnsNothing t × EntriesOwnNothing ps
EntriesOwnNothing (part (export n) t ps) = OwnsNothing t × EntriesOwnNothing ps
EntriesOwnNothing (part k t ps) = EntriesOwnNothing ps

-- so each part
abbrev pub PartsOwnNothing : Parts Name Name → Type 0
PartsOwnNothing none = Unit {0}
PartsOwnNothing (part k t ps) = OwnsNothing t × PartsOwnNothing ps

-- what a function takes and gives owns nothing
abbrev pub ValuesOwnNothing : Head Name Name → Parts Name Name → Type 0
ValuesOwnNothing (func i b) ps = PartsOwnNothing ps
ValuesOwnNothing h ps = Unit {0}

-- the entry and each entry inside it, at any depth
abbrev pub IsBare : Type_tree → Type 0
IsBare t = OwnsNothing t × EachNode (λ h ps. EntriesOwnNothing ps) t

-- so each entry of the context
abbrev pub AreBare : Tree_context → Type 0
AreBare c = AllEntries IsBare c

-- ## Exports and imports

-- what holds at each node of a tree holds so of each export and of each import
module _ (P : Head Name Name → Parts Name Name → Type 0) where
  abbrev Each : Text × Type_tree → Type 0
  Each e = EachNode P e.1

  exports-each_in : (ps : Parts Name Name) → EachNodeIn P ps → All Each (named_exports_in ps)
  exports-each_in none w = All-nil Each
  exports-each_in (part (export n) t ps) w = All-cons Each (n.name, t) (named_exports_in ps) w.0 (exports-each_in ps w.1)
  exports-each_in (part (import n) t ps) w = exports-each_in ps w.1
  exports-each_in (part here t ps) w = exports-each_in ps w.1
  exports-each_in (part (label l) t ps) w = exports-each_in ps w.1
  exports-each_in (part (core_import m n) t ps) w = exports-each_in ps w.1
  exports-each_in (part (core_export n) t ps) w = exports-each_in ps w.1

  pub exports-each : (t : Type_tree) → EachNode P t → All Each (named_exports t)
  exports-each (node h ps) w = exports-each_in ps w.1

  imports-each_in : (ps : Parts Name Name) → EachNodeIn P ps → All Each (named_imports_in ps)
  imports-each_in none w = All-nil Each
  imports-each_in (part (import n) t ps) w = All-cons Each (n.name, t) (named_imports_in ps) w.0 (imports-each_in ps w.1)
  imports-each_in (part (export n) t ps) w = imports-each_in ps w.1
  imports-each_in (part here t ps) w = imports-each_in ps w.1
  imports-each_in (part (label l) t ps) w = imports-each_in ps w.1
  imports-each_in (part (core_import m n) t ps) w = imports-each_in ps w.1
  imports-each_in (part (core_export n) t ps) w = imports-each_in ps w.1

  pub imports-each : (t : Type_tree) → EachNode P t → All Each (named_imports t)
  imports-each (node h ps) w = imports-each_in ps w.1
