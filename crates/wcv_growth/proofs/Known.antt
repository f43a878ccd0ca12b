-- What a step brings to a context: entries in which what is free has a property, and sound ones.
use Rattle.std.proofs.Common.{◌≡◌, ℕ, zero, suc, List, [], ◌∷◌, length, Bool, refl, ◌∙◌, subst, Some, None, ◌⊎◌, inl, inr}
use Rattle.std.specs.Prelude.{All, slice_get, Option}
use Rattle.std.specs.Option.{option_map, option_and_then}
use Rattle.std.proofs.lemmas.List.Elements.{All-weaker, All-nil}
use Rattle.std.proofs.lemmas.Option.{slice_get_within, get_or_from_slice_get}
use Rattle.wcv_core.specs.Names.{Name}
use Rattle.wcv_types.specs.Resources.{RefersTo, Free, FreeIn}
use Rattle.wcv_types.specs.Tree as tree
use Rattle.wcv_types.specs.Tree.{Extern_name, Head, type_entity, Sort, is_nothing, is_value, is_resource, is_func, is_instance, is_component, is_type, is_module, is_core_instance, is_core_type, is_core_item, sort, node, Parts, none, part, first_part, rest_parts, type_of}
use Rattle.wcv_types.proofs.Lists.{some-inj}
use Rattle.wcv_lower.specs.Context.{in_types, in_funcs, in_values, in_instances, in_components, core_modules, Side, importing, exporting, same_side, placed, unknown}
use Rattle.wcv_lower.specs.Mapped.{map_context}
use Rattle.wcv_lower.specs.Owned.{AllEntries}
use Rattle.wcv_lower.specs.Renamed.{Renaming, renaming}
use Rattle.wcv_lower.specs.Step.{Change, appends, lists, introduces, defines, creates, core_appends, interns, charges, types_slots, marks_value, uses_value, names_start, Step, change, apply, joins, enters, Brought}
use Rattle.wcv_lower.specs.Trees.{Type_tree, Tree_context, Tree_stack, tree_reader, created, referenced}
use Rattle.wcv_lower.proofs.Bringing.{Brings, AllBring, brings_one, brings_more}
use Rattle.wcv_growth.proofs.Having.{Has, has-left, has-renamed_back}
use Rattle.wcv_growth.proofs.Sound.{IsSound, created-sound}

-- ## Options

pub mapped-some : {A B : Type 0} (g : A → B) (o : Option A) (y : B) → option_map g o ≡ Some y → (x : A) × (o ≡ Some x) × (g x ≡ y)
mapped-some g None y e = cc
mapped-some g (Some x) y e = (x, refl, some-inj e)

pub then-some : {A B : Type 0} (g : A → Option B) (o : Option A) (y : B) → option_and_then g o ≡ Some y → (x : A) × (o ≡ Some x) × (g x ≡ Some y)
then-some g None y e = cc
then-some g (Some x) y e = (x, refl, e)

pub all-get : {X : Type 0} (Q : X → Type 0) (xs : List X) (k : ℕ) (x : X) → All Q xs → slice_get xs k ≡ Some x → Q x
all-get Q xs k x a e = subst Q (get_or_from_slice_get xs k x x e) (a k x (slice_get_within xs k x e))

-- ## Trees

pub first-free : (r : Name) (ps : Parts Name Name) → Free r (first_part ps) → FreeIn r ps
first-free r none (inl x) = absurd x
first-free r none (inr x) = absurd x.1
first-free r (part k t ps) x = inl x

rest-free : (r : Name) (ps : Parts Name Name) → FreeIn r (rest_parts ps) → FreeIn r ps
rest-free r none x = absurd x
rest-free r (part k t ps) x = inr x

module _ (P : Name → Type 0) where
  -- what is free in the tree has the property
  abbrev pub Within : Type_tree → Type 0
  Within t = (r : Name) → Free r t → P r

  abbrev pub WithinParts : Parts Name Name → Type 0
  WithinParts ps = (r : Name) → FreeIn r ps → P r

  -- and the tree is a sound entry
  abbrev pub Fine : Type_tree → Type 0
  Fine t = Within t × IsSound t

  -- in a node that is no reference what is free in its parts
  pub node-within : (h : Head Name Name) (ps : Parts Name Name) → ((r : Name) → RefersTo r h → ⊥) → WithinParts ps → Within (node h ps)
  node-within h ps n w r (inl x) = absurd (n r x)
  node-within h ps n w r (inr x) = w r x.1

  pub both-within : (t u : Type_tree) → Within t → Within u → Within (type_of t u)
  both-within t u v w r (inl x) = absurd x
  both-within t u v w r (inr (o, inl x)) = v r x
  both-within t u v w r (inr (o, inr (inl x))) = w r x
  both-within t u v w r (inr (o, inr (inr x))) = absurd x

  -- an entry of a type has what is free in its two types
  first-within : (ps : Parts Name Name) → Within (node type_entity ps) → Within (tree.created (node type_entity ps))
  first-within ps w r x = w r (inr (refl, first-free r ps x))

  created-within : (t : Type_tree) → Within t → Within (created t)
  created-within (node type_entity ps) w =
      let u : Within (tree.created (node type_entity ps)) = first-within ps w in
      both-within (tree.created (node type_entity ps)) (tree.created (node type_entity ps)) u u
  created-within (node h ps) w = w

  pub created-fine : (t : Type_tree) → Fine t → Fine (created t)
  created-fine t w = (created-within t w.0, created-sound t w.1)

  pub referenced-within : (t : Type_tree) → Within t → Within (referenced t)
  referenced-within (node type_entity ps) w r x = w r (inr (refl, rest-free r ps (first-free r (rest_parts ps) x)))
  referenced-within (node h ps) w r x = w r x

-- ## Contexts

pub entries-weaker : (P Q : Type_tree → Type 0) (c : Tree_context) → ((t : Type_tree) → P t → Q t) → AllEntries P c → AllEntries Q c
entries-weaker P Q c f h = record {
  core = λ k. All-weaker P Q f (c.core k) (h.core k);
  space = λ k. All-weaker P Q f (c.space k) (h.space k);
  side = λ d. All-weaker (λ e. P e.1) (λ e. Q e.1) (λ e w. f e.1 w) (c.side d) (h.side d);
}

-- the context lists the resource
abbrev pub In : Tree_context → Name → Type 0
In c r = Has c.imported r ⊎ Has c.defined r

-- so it did before names were renamed
pub in-renamed_back : (w : Renaming) (c : Tree_context) (r : Name) → In (map_context (renaming w) c) (w.resources.to r) → In c r
in-renamed_back w c r (inl h) = inl (has-renamed_back w.resources.to w.resources.back w.resources.is_back c.imported r h)
in-renamed_back w c r (inr h) = inr (has-renamed_back w.resources.to w.resources.back w.resources.is_back c.defined r h)

-- so does one of them
abbrev pub ListedAmong : List Tree_context → Name → Type 0
ListedAmong [] r = ⊥
ListedAmong (c ∷ cs) r = In c r ⊎ ListedAmong cs r

-- or one of the open contexts
abbrev pub Listed : Tree_stack → Name → Type 0
Listed s r = In s.top r ⊎ ListedAmong s.outer r

-- ## Steps

-- any resource
abbrev pub Any : Name → Type 0
Any r = Unit {0}

module _ (E : Type_tree → Type 0) (creates_too : (t : Type_tree) → E t → E (created t)) where
  pub joins-bring : (used : Bool) (o : Sort) (t : Type_tree) → E t → AllBring E Any (joins tree_reader used o t)
  joins-bring used is_func t w = brings_one E Any (appends in_funcs t) w
  joins-bring used is_value t w = brings_more E Any (appends in_values t) (marks_value used ∷ []) w (brings_one E Any (marks_value used) tt)
  joins-bring used is_instance t w = brings_one E Any (appends in_instances t) w
  joins-bring used is_component t w = brings_one E Any (appends in_components t) w
  joins-bring used is_type t w = brings_one E Any (appends in_types (created t)) (creates_too t w)
  joins-bring used is_module t w = brings_one E Any (core_appends core_modules t) w
  joins-bring used is_resource t w = All-nil (Brings E Any)
  joins-bring used is_nothing t w = All-nil (Brings E Any)
  joins-bring used is_core_instance t w = All-nil (Brings E Any)
  joins-bring used is_core_type t w = All-nil (Brings E Any)
  joins-bring used is_core_item t w = All-nil (Brings E Any)

  -- an entry of a side, with what it brings
  pub enters-bring : (d : Side) (n : Extern_name) (b : Brought tree_reader) → E b.entity → AllBring E Any (enters d n b)
  enters-bring d n b w =
      let last : Step tree_reader = joins tree_reader (same_side d exporting) (sort b.entity) b.entity in
      let named : Step tree_reader = creates d (tree_reader.creates b.entity) ∷ last in
      brings_more E Any (introduces d b.resources) (lists d n b.entity ∷ named) (λ k x l. tt)
      (brings_more E Any (lists d n b.entity) named w (brings_more E Any (creates d (tree_reader.creates b.entity)) last tt (joins-bring (same_side d exporting) (sort b.entity) b.entity w)))

-- ## What was listed stays so

in-change : (x : Change tree_reader) (s : Tree_stack) (r : Name) → In s.top r → In (change x s).top r
in-change (introduces importing rs) s r (inl h) = inl (has-left s.top.imported (placed (length (s.top.side importing)) rs) r h)
in-change (introduces importing rs) s r (inr h) = inr h
in-change (introduces exporting rs) s r (inl h) = inl h
in-change (introduces exporting rs) s r (inr h) = inr (has-left s.top.defined (unknown rs) r h)
in-change (defines q v) s r (inl h) = inl h
in-change (defines q v) s r (inr h) = inr (has-left s.top.defined ((q, v) ∷ []) r h)
in-change (appends k t) s r h = h
in-change (lists d n t) s r h = h
in-change (creates d is) s r h = h
in-change (core_appends k t) s r h = h
in-change (interns gs) s r h = h
in-change (charges zero n) s r h = h
in-change (charges (suc k) n) s r h = h
in-change (types_slots v) s r h = h
in-change (marks_value b) s r h = h
in-change (uses_value k) s r h = h
in-change names_start s r h = h

pub in-apply : (p : Step tree_reader) (s : Tree_stack) (r : Name) → In s.top r → In (apply p s).top r
in-apply [] s r h = h
in-apply (x ∷ xs) s r h = in-apply xs (change x s) r (in-change x s r h)

-- its kind stays
change-kind : (x : Change tree_reader) (s : Tree_stack) → (change x s).top.kind ≡ s.top.kind
change-kind (introduces importing rs) s = refl
change-kind (introduces exporting rs) s = refl
change-kind (charges zero n) s = refl
change-kind (charges (suc k) n) s = refl
change-kind x s = refl

pub apply-kind : (p : Step tree_reader) (s : Tree_stack) → (apply p s).top.kind ≡ s.top.kind
apply-kind [] s = refl
apply-kind (x ∷ xs) s = apply-kind xs (change x s) ∙ change-kind x s
