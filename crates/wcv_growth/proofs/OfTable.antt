-- Types whose core types are of a table: they are still of one that has more, and where resources and nodes are replaced.
use Rattle.std.proofs.Common.{◌≡◌, ◌≤◌, ℕ, List, [], ◌∷◌, ◌||◌, Bool, true, false, arith, Some, None}
use Rattle.std.specs.Prelude.{All, Option}
use Rattle.std.proofs.lemmas.List.Elements.{All-nil, All-cons, All-append, All-head, All-tail}
use Rattle.wcv_core.specs.CoreSizes.{IsEntityWithin}
use Rattle.wcv_core.specs.Names.{Name, Place}
use Rattle.wcv_core.specs.declared.core_types.EntityType.{EntityType}
use Rattle.wcv_syntax.specs.ModuleTypes.{Module_type}
use Rattle.wcv_types.specs.Identity.{Identity}
use Rattle.wcv_types.specs.Replacing.{Replacement, moves, changed_in, new_head, replaced, replaced_in}
use Rattle.wcv_types.specs.Tree.{Text, Extern_name, Head, Role, here, label, import, export, core_import, core_export, core_imports, core_exports, nothing, resource, instance, type_entity, core_type, core_item, node, Parts, none, part, first_part, rest_parts, entries, exports_in, exports, head, parts, type_of}
use Rattle.wcv_types.specs.Unfold.{Type_tree}
use Rattle.wcv_types.proofs.CoreGrown.{entity_more}
use Rattle.wcv_closed.specs.ClosedTree.{IsHeadWithin}
use Rattle.wcv_matching.specs.GivenTypes.{given_for}
use Rattle.wcv_matching.specs.Matching.{named_imports}
use Rattle.wcv_matching.specs.ModuleItems.{item_at, before, core_imports_in, core_exports_in, instance_exports_in, instance_exports}
use Rattle.wcv_matching.specs.Orderly.{EachNode, EachNodeIn}
use Rattle.wcv_lower.specs.Instantiated.{opening, instantiated}
use Rattle.wcv_lower.specs.Mapped.{map_entries}
use Rattle.wcv_lower.specs.Names.{Names}
use Rattle.wcv_lower.specs.NewTypes.{renewed, owned_anew, instance_tree}
use Rattle.wcv_lower.specs.Trees.{Entries, created, referenced, tree_parts, module_tree}
use Rattle.wcv_lower.proofs.Bringing.{OfAny}
use Rattle.wcv_lower.proofs.EvenTypes.{each_weaker}
use Rattle.wcv_lower.proofs.Owning.{each_given, given_has, rebuilt}
use Rattle.wcv_growth.proofs.BareGiven.{given_for-each, looked-up}

-- what a node names is of a table of n types
abbrev pub NodeOf : ℕ → Head Name Name → Parts Name Name → Type 0
NodeOf n h ps = IsHeadWithin n h

-- so what each node inside a type names
abbrev pub OfTable : ℕ → Type_tree → Type 0
OfTable n t = EachNode (NodeOf n) t

abbrev pub AreOfTable : ℕ → Parts Name Name → Type 0
AreOfTable n ps = EachNodeIn (NodeOf n) ps

-- the entries of a list
abbrev pub AllOfTable : ℕ → Entries → Type 0
AllOfTable n es = All (λ e. OfTable n e.1) es

head-more : (m n : ℕ) → m ≤ n → (h : Head Name Name) → IsHeadWithin m h → IsHeadWithin n h
head-more m n l (core_type i) w = omega (arith, l, w)
head-more m n l (core_item e) w = entity_more m n e l w
head-more m n l h w = tt

-- of a table that has more
pub table-more : (m n : ℕ) → m ≤ n → (t : Type_tree) → OfTable m t → OfTable n t
table-more m n l t w = each_weaker (NodeOf m) (NodeOf n) (λ h ps x. head-more m n l h x) t w

module _ (n : ℕ) where
  -- ## Type entities

  pub nothing-of : OfTable n (node nothing none)
  nothing-of = (tt, tt)

  pub both-of : (t u : Type_tree) → OfTable n t → OfTable n u → OfTable n (type_of t u)
  both-of t u w v = (tt, (w, (v, tt)))

  first-of : (ps : Parts Name Name) → AreOfTable n ps → OfTable n (first_part ps)
  first-of none w = nothing-of
  first-of (part k t ps) w = w.0

  rest-of : (ps : Parts Name Name) → AreOfTable n ps → AreOfTable n (rest_parts ps)
  rest-of none w = tt
  rest-of (part k t ps) w = w.1

  pub created-of : (t : Type_tree) → OfTable n t → OfTable n (created t)
  created-of (node type_entity ps) w = both-of (first_part ps) (first_part ps) (first-of ps w.1) (first-of ps w.1)
  created-of (node h ps) w = w

  pub referenced-of : (t : Type_tree) → OfTable n t → OfTable n (referenced t)
  referenced-of (node type_entity ps) w = first-of (rest_parts ps) (rest-of ps w.1)
  referenced-of (node h ps) w = w

  pub renewed-of : (names : Names) (p : Place) (t : Type_tree) → OfTable n t → OfTable n (renewed names p t)
  renewed-of names p (node h ps) w = (go h w.0, w.1)
    where
      go : (h : Head Name Name) → IsHeadWithin n h → IsHeadWithin n (head (renewed names p (node h ps)))
      go (core_type i) w = w
      go (core_item e) w = w
      go h w = tt

  -- ## Entries

  pub entries-of : (role : Extern_name → Role) (es : Entries) (rest : Parts Name Name) → AllOfTable n es → AreOfTable n rest → AreOfTable n (entries role es rest)
  entries-of role [] rest a w = w
  entries-of role (e ∷ es) rest a w = (All-head (λ (x : Extern_name × Type_tree). OfTable n x.1) e es a, entries-of role es rest (All-tail (λ (x : Extern_name × Type_tree). OfTable n x.1) e es a) w)

  exports-of_in : (ps : Parts Name Name) → AreOfTable n ps → AllOfTable n (exports_in ps)
  exports-of_in none w = All-nil (λ (e : Extern_name × Type_tree). OfTable n e.1)
  exports-of_in (part (export x) t ps) w = All-cons (λ (e : Extern_name × Type_tree). OfTable n e.1) (x, t) (exports_in ps) w.0 (exports-of_in ps w.1)
  exports-of_in (part (import x) t ps) w = exports-of_in ps w.1
  exports-of_in (part here t ps) w = exports-of_in ps w.1
  exports-of_in (part (label l) t ps) w = exports-of_in ps w.1
  exports-of_in (part (core_import m x) t ps) w = exports-of_in ps w.1
  exports-of_in (part (core_export x) t ps) w = exports-of_in ps w.1

  -- what a type exports is of the table
  pub exports-of : (t : Type_tree) → OfTable n t → AllOfTable n (exports t)
  exports-of (node h ps) w = exports-of_in ps w.1

  pub parts-of : (ps : List (Role × Type_tree)) → All (λ p. OfTable n p.1) ps → AreOfTable n (tree_parts ps)
  parts-of [] a = tt
  parts-of (p ∷ ps) a = (All-head (λ (x : Role × Type_tree). OfTable n x.1) p ps a, parts-of ps (All-tail (λ (x : Role × Type_tree). OfTable n x.1) p ps a))

  -- ## Where resources are replaced, and nodes are given

  module _ (m : Replacement) (gives : (i : Identity) (u : Type_tree) → m.nodes i ≡ Some u → OfTable n u) where
    head-again : (b : Bool) (h : Head Name Name) → IsHeadWithin n h → IsHeadWithin n (new_head m b h)
    head-again b (resource r s) w = tt
    head-again true h w = w
    head-again false h w = w

    mutual
      pub replaced-of : (t : Type_tree) → OfTable n t → OfTable n (replaced m t)
      replaced-of (node h ps) w = given_has m (OfTable n) h (rebuilt m h ps) (each_given m (OfTable n) gives (node h ps)).0 (head-again (moves m h || changed_in m ps) h w.0, replaced_in-of ps w.1)

      replaced_in-of : (ps : Parts Name Name) → AreOfTable n ps → AreOfTable n (replaced_in m ps)
      replaced_in-of none w = tt
      replaced_in-of (part k t ps) w = (replaced-of t w.0, replaced_in-of ps w.1)

    mapped-of : (es : Entries) → AllOfTable n es → AllOfTable n (map_entries (replaced m) es)
    mapped-of [] a = All-nil (λ (e : Extern_name × Type_tree). OfTable n e.1)
    mapped-of (e ∷ es) a =
        All-cons (λ (x : Extern_name × Type_tree). OfTable n x.1) (e.0, replaced m e.1) (map_entries (replaced m) es) (replaced-of e.1 (All-head (λ (x : Extern_name × Type_tree). OfTable n x.1) e es a))
        (mapped-of es (All-tail (λ (x : Extern_name × Type_tree). OfTable n x.1) e es a))

  -- an instance of an instance type
  pub instance-of : (names : Names) (p : Place) (t : Type_tree) → OfTable n t → OfTable n (instance_tree names p t)
  instance-of names p (node (instance i own) ps) w = replaced-of (owned_anew names p own) (λ i u e. cc) (node (instance i []) ps) (tt, w.1)
  instance-of names p (node h ps) w = w

  -- one of a component
  pub instantiated-of : (names : Names) (p : Place) (args : List (Text × Type_tree)) (c : Type_tree) → All (λ e. OfTable n e.1) args → OfTable n c → OfTable n (instantiated names p args c)
  instantiated-of names p args c a w = (tt, entries-of export (map_entries (replaced m) (exports c)) none (mapped-of m gives (exports c) (exports-of c w)) tt)
    where
      m : Replacement
      m = opening names p args c

      gives : (i : Identity) (u : Type_tree) → m.nodes i ≡ Some u → OfTable n u
      gives i u e = looked-up (λ (x : Identity × Type_tree). OfTable n x.1) i (given_for args (named_imports c)) u (given_for-each (NodeOf n) tt args (named_imports c) a) e

  -- ## Core items

  pub item-of : (t : Type_tree) → OfTable n t → OfAny (IsEntityWithin n) (item_at (head t))
  item-of (node (core_item x) qs) w = w.0
  item-of (node h qs) w = tt

  module _ {K : Type 0} where
    pub before-any : (k : K) (o : Option EntityType) (es : List (K × EntityType)) → OfAny (IsEntityWithin n) o → All (λ e. IsEntityWithin n e.1) es → All (λ (e : K × EntityType). IsEntityWithin n e.1) (before k o es)
    before-any k None es w a = a
    before-any k (Some x) es w a = All-cons (λ (e : K × EntityType). IsEntityWithin n e.1) (k, x) es w a

    before-of : (k : K) (t : Type_tree) (es : List (K × EntityType)) → OfTable n t → All (λ e. IsEntityWithin n e.1) es → All (λ (e : K × EntityType). IsEntityWithin n e.1) (before k (item_at (head t)) es)
    before-of k t es w a = before-any k (item_at (head t)) es (item-of t w) a

  pub imports-items : (ps : Parts Name Name) → AreOfTable n ps → All (λ i. IsEntityWithin n i.1) (core_imports_in ps)
  imports-items none w = All-nil (λ (i : (Text × Text) × EntityType). IsEntityWithin n i.1)
  imports-items (part (core_import m x) t ps) w = before-of (m, x) t (core_imports_in ps) w.0 (imports-items ps w.1)
  imports-items (part (import x) t ps) w = imports-items ps w.1
  imports-items (part (export x) t ps) w = imports-items ps w.1
  imports-items (part here t ps) w = imports-items ps w.1
  imports-items (part (label l) t ps) w = imports-items ps w.1
  imports-items (part (core_export x) t ps) w = imports-items ps w.1

  pub exports-items : (ps : Parts Name Name) → AreOfTable n ps → All (λ e. IsEntityWithin n e.1) (core_exports_in ps)
  exports-items none w = All-nil (λ (e : Text × EntityType). IsEntityWithin n e.1)
  exports-items (part (core_export x) t ps) w = before-of x t (core_exports_in ps) w.0 (exports-items ps w.1)
  exports-items (part (import x) t ps) w = exports-items ps w.1
  exports-items (part (export x) t ps) w = exports-items ps w.1
  exports-items (part here t ps) w = exports-items ps w.1
  exports-items (part (label l) t ps) w = exports-items ps w.1
  exports-items (part (core_import m x) t ps) w = exports-items ps w.1

  items-at : (t : Type_tree) → OfTable n t → All (λ e. IsEntityWithin n e.1) (core_exports_in (parts t))
  items-at (node h ps) w = exports-items ps w.1

  instance-items_in : (ps : Parts Name Name) → AreOfTable n ps → All (λ e. IsEntityWithin n e.1) (instance_exports_in ps)
  instance-items_in none w = All-nil (λ (e : Text × EntityType). IsEntityWithin n e.1)
  instance-items_in (part here t ps) w = All-append (λ (e : Text × EntityType). IsEntityWithin n e.1) (core_exports_in (parts t)) (instance_exports_in ps) (items-at t w.0) (instance-items_in ps w.1)
  instance-items_in (part (core_export x) t ps) w = before-of x t (instance_exports_in ps) w.0 (instance-items_in ps w.1)
  instance-items_in (part (import x) t ps) w = instance-items_in ps w.1
  instance-items_in (part (export x) t ps) w = instance-items_in ps w.1
  instance-items_in (part (label l) t ps) w = instance-items_in ps w.1
  instance-items_in (part (core_import m x) t ps) w = instance-items_in ps w.1

  -- what a core instance exports
  pub instance-items : (t : Type_tree) → OfTable n t → All (λ e. IsEntityWithin n e.1) (instance_exports t)
  instance-items (node h ps) w = instance-items_in ps w.1

  -- what a core module imports
  pub module-items : (t : Type_tree) → OfTable n t → All (λ i. IsEntityWithin n i.1) (core_imports_in (parts t))
  module-items (node h ps) w = imports-items ps w.1

  pub exports-made : (es : List (Text × EntityType)) → All (λ e. IsEntityWithin n e.1) es → AreOfTable n (core_exports es none)
  exports-made [] a = tt
  exports-made (e ∷ es) a = ((All-head (λ (x : Text × EntityType). IsEntityWithin n x.1) e es a, tt), exports-made es (All-tail (λ (x : Text × EntityType). IsEntityWithin n x.1) e es a))

  imports-made : (is : List ((Text × Text) × EntityType)) (rest : Parts Name Name) → All (λ i. IsEntityWithin n i.1) is → AreOfTable n rest → AreOfTable n (core_imports is rest)
  imports-made [] rest a w = w
  imports-made (i ∷ is) rest a w =
      ((All-head (λ (x : (Text × Text) × EntityType). IsEntityWithin n x.1) i is a, tt), imports-made is rest (All-tail (λ (x : (Text × Text) × EntityType). IsEntityWithin n x.1) i is a) w)

  -- a core module whose items are
  pub module-of : (i : Name) (m : Module_type) → All (λ i. IsEntityWithin n i.1) m.imports → All (λ e. IsEntityWithin n e.1) m.exports → OfTable n (module_tree i m)
  module-of i m a b = (tt, imports-made m.imports (core_exports m.exports none) a (exports-made m.exports b))
