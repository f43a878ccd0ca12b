-- Exported items: what an export gives, with or without a written type, is what is looked up in the context.
use Rattle.std.proofs.Common.{◌≡◌, ℕ, List, [], ◌∷◌, ◌++◌, map, refl, sym, ◌∙◌, ap, subst, Bool, true, false, not, ◌&&◌, Some, None}
use Rattle.std.specs.Prelude.{slice_get, Option, is_some}
use Rattle.std.specs.Option.{option_map, option_and_then}
use Rattle.std.proofs.lemmas.Bool.{false≢true}
use Rattle.wcv_core.specs.CoreForm.{Group}
use Rattle.wcv_core.specs.Names.{Name, Place}
use Rattle.wcv_core.specs.declared.error.ErrorKind.TheVariants as error
use Rattle.wcv_syntax.specs.declared.component_type.ComponentTypeRef.{ComponentTypeRef}
use Rattle.wcv_syntax.specs.declared.instance.ComponentExternalKind.{ComponentExternalKind}
use Rattle.wcv_syntax.specs.declared.instance.ComponentExternalKind.TheVariants as kind
use Rattle.wcv_syntax.specs.declared.name.ComponentExport.{ComponentExport}
use Rattle.wcv_types.specs.Arena.{Arena}
use Rattle.wcv_types.specs.ComponentTrees.{resource_path}
use Rattle.wcv_types.specs.Entities.{any_part, entity_slot, entity_tree, EntityStands}
use Rattle.wcv_types.specs.FirstPath.{first_path}
use Rattle.wcv_types.specs.Standing.{Extends}
use Rattle.wcv_types.specs.Tree.{exports, owned}
use Rattle.wcv_types.specs.Unfold.{trees, tree_at}
use Rattle.wcv_types.specs.declared.ids.ComponentAnyTypeId.{ComponentAnyTypeId}
use Rattle.wcv_types.specs.declared.ids.Part.TheVariants as part
use Rattle.wcv_types.specs.declared.ids.ResourceId.{ResourceId}
use Rattle.wcv_types.specs.declared.shapes.ComponentEntityType.{ComponentEntityType}
use Rattle.wcv_types.specs.declared.shapes.ComponentEntityType.TheVariants as entity
use Rattle.wcv_types.specs.declared.shapes.ComponentValType.{ComponentValType}
use Rattle.wcv_lower.specs.Checks.{Checks, IsFree, if_found, missing}
use Rattle.wcv_lower.specs.Context.{in_types, in_instances}
use Rattle.wcv_lower.specs.Defined.{is_empty}
use Rattle.wcv_lower.specs.Entries.{written, written_checks, items_of, exported_at, exported_as, exported_by, exported, mismatch, ascribed_checks, found_checks}
use Rattle.wcv_lower.specs.Given.{names_of, both_given}
use Rattle.wcv_lower.specs.Names as origin
use Rattle.wcv_lower.specs.Names.{Names}
use Rattle.wcv_lower.specs.NewTypes.{path_or_none}
use Rattle.wcv_lower.specs.Readers.{Maker}
use Rattle.wcv_lower.specs.Step.{Brought, bare, brought_at}
use Rattle.wcv_lower.specs.Trees.{Type_tree, type_entry, tree_reader, tree_maker}
use Rattle.wcv_lower.specs.Values.{kind_checks}
use Rattle.wcv_lower.proofs.Causes.{free_both}
use Rattle.wcv_spaces.specs.Contents.{Contents, context_of, id_tree, StateStands}
use Rattle.wcv_instantiate.specs.Instances.{MayOpenItem, EntityMayOpen}
use Rattle.wcv_spaces.specs.Looking.{item_id, introduced_id, introduced_in, created_reference, brings_own, ascribed_id_checks, CreatesAgain, GivesExported, GivesItem}
use Rattle.wcv_spaces.specs.Promises.{is_instance_entity, EntityAlone}
use Rattle.wcv_spaces.proofs.Brought.{as_it_is_at, instance_at, brought_same}
use Rattle.wcv_spaces.proofs.Found.{Brings, Looked, LookedUp, also_free, found_same, found_instance, get_same, stands_at, written_checks_same, written_found}
use Rattle.wcv_spaces.proofs.Found as found
use Rattle.wcv_state.proofs.ItemsAt.{read_as, item_there, item_stands}
use Rattle.wcv_spaces.proofs.Keeping.{same_slot}
use Rattle.wcv_spaces.proofs.StaysAlone.{stays_at}
use Rattle.wcv_instantiate.proofs.Opened.{alone_opens}

-- ## What brings resources of its own

not_not : (v : Bool) → v ≡ not (not v)
not_not true = refl
not_not false = refl

empty_mapped : {X Y : Type 0} (f : X → Y) (xs : List X) → is_empty (map f xs) ≡ is_empty xs
empty_mapped f [] = refl
empty_mapped f (x ∷ xs) = refl

empty_introduced : (o : Option ResourceId) → is_empty (map resource_path (introduced_in o)) ≡ not (is_some o)
empty_introduced None = refl
empty_introduced (Some r) = refl

empty : (rs : List Name) → not (is_empty rs) ≡ false → rs ≡ []
empty [] e = refl
empty (r ∷ rs) e = absurd (false≢true (sym e))

module _ (b : Arena) where
  abbrev tree : ComponentEntityType → Type_tree
  tree x = entity_tree (trees b.nodes) x

  other_brings : (mk : Maker tree_reader) (x : ComponentEntityType) → EntityStands b x → is_instance_entity x ≡ false → is_empty (brought_at mk (tree x)).resources ≡ not (is_some (introduced_id x))
  other_brings mk x h q = ap (λ (z : Brought tree_reader). is_empty z.resources) (as_it_is_at b mk x h q ∙ brought_same b x h) ∙ empty_introduced (introduced_id x)

  brings_is : (names : Names) (p : Place) (x : ComponentEntityType) → EntityStands b x → is_empty (brought_at (tree_maker names p) (tree x)).resources ≡ not (brings_own b x)
  brings_is names p (entity.Instance i) h =
      let t : Type_tree = tree_at b (part.Instance i) in
      let new : Name → Name × List ℕ = λ r. (names.resource (origin.again p r), path_or_none (first_path r (exports t))) in
      ap (λ (z : Brought tree_reader). is_empty z.resources) (instance_at b (tree_maker names p) i h) ∙ empty_mapped new (owned t) ∙ not_not (is_empty (owned t))
  brings_is names p (entity.Module i) h = other_brings (tree_maker names p) (entity.Module i) h refl
  brings_is names p (entity.Func i) h = other_brings (tree_maker names p) (entity.Func i) h refl
  brings_is names p (entity.Value v) h = other_brings (tree_maker names p) (entity.Value v) h refl
  brings_is names p (entity.Ty c r) h = other_brings (tree_maker names p) (entity.Ty c r) h refl
  brings_is names p (entity.Component i) h = other_brings (tree_maker names p) (entity.Component i) h refl

  pub brings_none : (x : ComponentEntityType) → brings_own b x ≡ false → EntityAlone b x
  brings_none (entity.Instance i) q = λ v. empty (owned (tree_at b (part.Instance i))) q
  brings_none (entity.Module i) q = λ v. absurd (false≢true v)
  brings_none (entity.Func i) q = λ v. absurd (false≢true v)
  brings_none (entity.Value w) q = λ v. absurd (false≢true v)
  brings_none (entity.Ty c r) q = λ v. absurd (false≢true v)
  brings_none (entity.Component i) q = λ v. absurd (false≢true v)

-- the rule's test of an item against what joins of an entity
abbrev fits : List Group → Type_tree → Type_tree → Bool
fits gs t u = tree_reader.matches gs t u

module _ (a b : Arena) (g : Extends a b) (core : b.core ≡ a.core) (y x : ComponentEntityType) (hy : EntityStands a y) (hx : EntityStands b x) (names : Names) (p : Place) where
  abbrev brought : Brought tree_reader
  brought = brought_at (tree_maker names p) (entity_tree (trees b.nodes) x)

  test_same : (v : Bool) → brings_own b x ≡ v → (is_empty brought.resources && fits a.core (entity_tree (trees a.nodes) y) brought.entity) ≡ (not (brings_own b x) && fits b.core (entity_tree (trees b.nodes) y) (entity_tree (trees b.nodes) x))
  test_same true q =
      ap (λ (v : Bool). v && fits a.core (entity_tree (trees a.nodes) y) brought.entity) (brings_is b names p x hx ∙ ap not q) ∙
      sym (ap (λ (v : Bool). not v && fits b.core (entity_tree (trees b.nodes) y) (entity_tree (trees b.nodes) x)) q)
  test_same false q =
      let entity_is : brought.entity ≡ entity_tree (trees b.nodes) x = ap (λ (z : Brought tree_reader). z.entity) (stays_at b names p x hx (brings_none b x q)) in
      let item_is : entity_tree (trees b.nodes) y ≡ entity_tree (trees a.nodes) y = same_slot a b g (entity_slot y) hy in
      ap (λ (v : Bool). v && fits a.core (entity_tree (trees a.nodes) y) brought.entity) (brings_is b names p x hx ∙ ap not q) ∙ (λ j. fits (sym core j) (sym item_is j) (entity_is j)) ∙
      sym (ap (λ (v : Bool). not v && fits b.core (entity_tree (trees b.nodes) y) (entity_tree (trees b.nodes) x)) q)

  mismatch_same : mismatch {X = tree_reader} a.core (entity_tree (trees a.nodes) y) brought ≡ ascribed_id_checks b y x
  mismatch_same = ap (λ (v : Bool). (error.Mismatch, not v) ∷ []) (test_same (brings_own b x) refl)

-- ## What is exported

without : (v m : Bool) → not (not v && m) ≡ false → v ≡ false
without false m e = refl
without true m e = absurd (false≢true (sym e))

module _ (a : Arena) (s : Contents) (h : StateStands a s) where
  -- an export of that kind, of an item at that index
  abbrev kind_brings : ComponentExternalKind → ℕ → Brings
  kind_brings w i m = option_map (exported_as m w) (slice_get (items_of (context_of a s) w) i)

  -- it makes no type, and is no instance
  abbrev IsBare : ComponentEntityType → Type 0
  IsBare x = (introduced_id x ≡ None) × (created_reference x ≡ []) × EntityAlone a x

  bare_found : (b : Arena) (w : ComponentExternalKind) (i : ℕ) (x : ComponentEntityType) → (b ≡ a) × (item_id s.spaces w i ≡ Some x) → IsBare x →
      LookedUp a b x (missing (slice_get (items_of (context_of a s) w) i)) (λ m. option_map (bare tree_reader) (slice_get (items_of (context_of a s) w) i))
  bare_found b w i x e n =
      let o : Option Type_tree = slice_get (items_of (context_of a s) w) i in
      let is : o ≡ Some (entity_tree (trees a.nodes) x) = item_there a s h w i x e.1 in
      subst (λ (y : Arena). LookedUp a y x (missing o) (λ m. option_map (bare tree_reader) o)) (sym e.0)
      (found_same a x (missing o) o is (subst (λ (q : Option Type_tree). IsFree (missing q)) (sym is) (refl, tt)) n.2 (item_stands a s h w i x e.1) n.0 n.1)

  kind_found : (b : Arena) (w : ComponentExternalKind) (i : ℕ) (x : ComponentEntityType) → GivesExported a b s.spaces w i x → LookedUp a b x (missing (slice_get (items_of (context_of a s) w) i)) (kind_brings w i)
  kind_found b kind.Module i x e = bare_found b kind.Module i x e (read_as IsBare entity.Module (slice_get s.spaces.core_modules i) x (λ j f. (refl, refl, λ v. absurd (false≢true v))) e.1)
  kind_found b kind.Func i x e = bare_found b kind.Func i x e (read_as IsBare entity.Func (slice_get s.spaces.funcs i) x (λ j f. (refl, refl, λ v. absurd (false≢true v))) e.1)
  kind_found b kind.Instance i x e =
      let o : Option Type_tree = slice_get (items_of (context_of a s) kind.Instance) i in
      subst (λ (y : Arena). LookedUp a y x (missing o) (λ m. option_map m.instance_of o)) (sym e.0)
      (read_as (λ (y : ComponentEntityType). LookedUp a a y (missing o) (λ m. option_map m.instance_of o)) entity.Instance (slice_get s.spaces.instances i) x
      (λ j f.
      let is : o ≡ Some (entity_tree (trees a.nodes) (entity.Instance j)) = item_there a s h kind.Instance i (entity.Instance j) (ap (option_map entity.Instance) f) in
      found_instance a j (missing o) o is (subst (λ (q : Option Type_tree). IsFree (missing q)) (sym is) (refl, tt)) (stands_at a s h in_instances i j f))
      e.1)
  kind_found b kind.Component i x e = bare_found b kind.Component i x e (read_as IsBare entity.Component (slice_get s.spaces.components i) x (λ j f. (refl, refl, λ v. absurd (false≢true v))) e.1)
  kind_found b kind.Value i x e = bare_found b kind.Value i x e (read_as IsBare (λ (v : ComponentValType × Bool). entity.Value v.0) (slice_get s.spaces.values i) x (λ j f. (refl, refl, λ v. absurd (false≢true v))) e.1)
  kind_found b kind.Ty i x w =
      let look : Option Type_tree = slice_get ((context_of a s).space in_types) i in
      found.again a s h b i x (missing look) (kind_brings kind.Ty i) w (λ r e.
      let is : look ≡ Some (type_entry (tree_at a (any_part r))) = get_same a s h in_types i ∙ ap (option_map (id_tree (trees a.nodes) in_types)) e in
      ((λ m. ap (option_map (exported_as m kind.Ty)) is), subst (λ (o : Option Type_tree). IsFree (missing o)) (sym is) (refl, tt)))

  -- the causes of an item with a written type, by names under which that gives what joins of the entity
  pub ascribed_same : (b : Arena) (e : ComponentExport) (r : ComponentTypeRef) (y x : ComponentEntityType) → Extends a b → b.core ≡ a.core → item_id s.spaces e.kind e.index ≡ Some y → EntityStands b x →
      (names : Names) (p : Place) → written (tree_maker names p) (context_of a s) r ≡ Some (brought_at (tree_maker names p) (entity_tree (trees b.nodes) x)) →
      (missing (exported_at (context_of a s) e) ++ ascribed_checks s.features a.core (tree_maker names p) (context_of a s) (Some r) (exported_at (context_of a s) e)) ≡
      (missing (Some (entity_tree (trees a.nodes) y)) ++ (written_checks s.features (context_of a s) r ++ ascribed_id_checks b y x))
  ascribed_same b e r y x g core there hx names p w =
      let t : Type_tree = entity_tree (trees a.nodes) y in
      let all : Option Type_tree → Option (Brought tree_reader) → Checks = λ o q. missing o ++ (written_checks s.features (context_of a s) r ++ if_found (λ (z : Type_tree). if_found (mismatch {X = tree_reader} a.core z) q) o) in
      (λ j. all (item_there a s h e.kind e.index y there j) (w j)) ∙
      ap (λ (cs : Checks). missing (Some t) ++ (written_checks s.features (context_of a s) r ++ cs)) (mismatch_same a b g core y x (item_stands a s h e.kind e.index y there) hx names p)

  -- so of what is given with or without a written type
  pub item_found : (b : Arena) (e : ComponentExport) (o : Option ComponentTypeRef) (x : ComponentEntityType) → GivesItem a b s.features s.spaces e o x →
      Looked a b x (λ k. missing (exported_at (context_of a s) e) ++ ascribed_checks s.features a.core k (context_of a s) o (exported_at (context_of a s) e)) (λ k. exported_by k (context_of a s) e o)
  item_found b e None x w = kind_found b e.kind e.index x w
  item_found b e (Some r) x w =
      let f : IsFree (written_checks s.features (context_of a s) r) = subst IsFree (sym (written_checks_same a s h s.features r)) w.looked in
      let l : LookedUp a b x (written_checks s.features (context_of a s) r) (λ m. written m (context_of a s) r) = written_found a s h s.features b r x w.written f in
      let t : Type_tree = entity_tree (trees a.nodes) w.item in
      record {
        grown = l.grown;
        core = l.core;
        given_names = l.given_names;
        given = l.given;
        brought = λ p more.
            let mk : Maker tree_reader = tree_maker (names_of (both_given (l.given_names p) more)) p in
            ap (option_and_then (λ (z : Type_tree). written mk (context_of a s) r)) (item_there a s h e.kind e.index w.item w.at) ∙ l.brought p more;
        instance = l.instance;
        free = λ p more.
            subst IsFree (sym (ascribed_same b e r w.item x l.grown l.core w.at l.stands (names_of (both_given (l.given_names p) more)) p (l.brought p more)))
            (free_both (missing (Some t)) (written_checks s.features (context_of a s) r ++ ascribed_id_checks b w.item x) (refl, tt) (free_both (written_checks s.features (context_of a s) r) (ascribed_id_checks b w.item x) f w.free));
        stands = l.stands;
        fresh = l.fresh;
        stamped = l.stamped;
      }

  pub exported_found : (b : Arena) (e : ComponentExport) (x : ComponentEntityType) → GivesItem a b s.features s.spaces e e.ty x → IsFree (kind_checks s.features e.kind) →
      Looked a b x (λ k. found_checks s.features a.core k (context_of a s) e) (λ k. exported k (context_of a s) e)
  exported_found b e x w f = also_free a b x _ _ (kind_checks s.features e.kind) f (item_found b e e.ty x w)

  -- an instance may be made of it, if it is one
  kind_opens : (b : Arena) (w : ComponentExternalKind) (k : ℕ) (x : ComponentEntityType) → GivesExported a b s.spaces w k x → MayOpenItem a s.spaces.instances w k None → EntityMayOpen b x
  kind_opens b kind.Instance k x e m =
      subst (λ (y : Arena). EntityMayOpen y x) (sym e.0)
      (read_as (EntityMayOpen a) entity.Instance (slice_get s.spaces.instances k) x (λ i f. m i f) e.1)
  kind_opens b kind.Module k x e m = read_as (EntityMayOpen b) entity.Module (slice_get s.spaces.core_modules k) x (λ i f. tt) e.1
  kind_opens b kind.Func k x e m = read_as (EntityMayOpen b) entity.Func (slice_get s.spaces.funcs k) x (λ i f. tt) e.1
  kind_opens b kind.Component k x e m = read_as (EntityMayOpen b) entity.Component (slice_get s.spaces.components k) x (λ i f. tt) e.1
  kind_opens b kind.Value k x e m = read_as (EntityMayOpen b) (λ (v : ComponentValType × Bool). entity.Value v.0) (slice_get s.spaces.values k) x (λ v f. tt) e.1
  kind_opens b kind.Ty k x e m = go (slice_get s.spaces.types k) e
    where
      go : (o : Option ComponentAnyTypeId) → CreatesAgain a b o x → EntityMayOpen b x
      go None f = absurd f
      go (Some r) f = subst (EntityMayOpen b) (sym f.2) tt

  pub item_opens : (b : Arena) (e : ComponentExport) (o : Option ComponentTypeRef) (x : ComponentEntityType) → GivesItem a b s.features s.spaces e o x → EntityStands b x → MayOpenItem a s.spaces.instances e.kind e.index o → EntityMayOpen b x
  item_opens b e None x w st m = kind_opens b e.kind e.index x w m
  item_opens b e (Some r) x w st m =
      alone_opens b x st (brings_none b x (without (brings_own b x) (fits b.core (entity_tree (trees b.nodes) w.item) (entity_tree (trees b.nodes) x)) w.free.0))
