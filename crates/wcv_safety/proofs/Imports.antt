-- Imports: the argument that opens one passes the machine's test, and joins as what agrees with it.
use Rattle.std.proofs.Common.{◌≡◌, ◌∙◌, ℕ, List, [], ◌∷◌, Bool, true, false, cond, Option, Some, None, refl, sym, ap, subst, append-nil}
use Rattle.std.specs.Prelude.{All, bytes_eq}
use Rattle.std.specs.Map.{lookup}
use Rattle.std.specs.Option.{option_map, option_and_then}
use Rattle.std.proofs.lemmas.List.Elements.{All-nil, All-cons, All-head, All-tail, All-contains, All-weaker}
use Rattle.wcv_core.specs.CoreForm.{Group}
use Rattle.wcv_core.specs.Names.{Name, Place, same}
use Rattle.wcv_closed.specs.ClosedMatching.{SupersKeepForm}
use Rattle.wcv_closed.specs.ClosedTable.{IsTable}
use Rattle.wcv_closed.specs.Found.{Found}
use Rattle.wcv_syntax.specs.declared.name.ComponentImport.{ComponentImport}
use Rattle.wcv_types.specs.Tree as tree
use Rattle.wcv_types.specs.Tree.{Text, is_type, sort, referenced}
use Rattle.wcv_types.specs.Unfold.{Type_tree}
use Rattle.wcv_types.proofs.Lists.{some-inj}
use Rattle.wcv_matching.specs.Matching.{opened_by}
use Rattle.wcv_matching.specs.ModuleItems.{ItemsMatch}
use Rattle.wcv_matching.proofs.TableMatching.{items_go_on}
use Rattle.wcv_lower.specs.Context.{importing}
use Rattle.wcv_lower.specs.Entries as entry
use Rattle.wcv_lower.specs.Entries.{extern_name, new_there, is_new, written}
use Rattle.wcv_lower.specs.Names.{Names}
use Rattle.wcv_lower.specs.NewTypes.{type_entry}
use Rattle.wcv_lower.specs.Readers.{Brought}
use Rattle.wcv_lower.specs.Step.{Step, apply, bare, enters}
use Rattle.wcv_lower.specs.Trees as trees
use Rattle.wcv_lower.specs.Trees.{Tree_stack, tree_reader, tree_maker}
use Rattle.wcv_growth.proofs.Known.{mapped-some}
use Rattle.wcv_world.specs.Growth.{Tokens, Arguments, importing_alone, FitsWritten, fits_written, if_fits, argument_for, import_step}
use Rattle.wcv_world.specs.Reading.{Value_stack, value_reader, value_maker}
use Rattle.wcv_world.specs.Values.{Value, type_over}
use Rattle.wcv_world.proofs.Fitting.{fits-decided}
use Rattle.wcv_safety.specs.Agreeing.{IsToken, AgreeAll, AgreeReadings}
use Rattle.wcv_safety.specs.Clean.{AllAlike}
use Rattle.wcv_safety.specs.Fitting.{MatchesAs, Fits}
use Rattle.wcv_safety.specs.Importing.{with_opened, IsTold, WrittenIsTold, OwnsNoneThere}
use Rattle.wcv_safety.specs.Standing.{BothStand, IsNewTo, IsNewIn, with_token}
use Rattle.wcv_safety.proofs.Composing.{MatchesAs-trans}
use Rattle.wcv_safety.proofs.Entering.{new-same, new-some, enters-agree}
use Rattle.wcv_safety.proofs.ExportAliases.{named-agrees, created-agrees}
use Rattle.wcv_safety.proofs.Matched.{both-alike, entry-matches, matched-sort, created-is}
use Rattle.wcv_safety.proofs.Rereading.{SameAt, context-reread, contexts-reread, named-reread}
use Rattle.wcv_safety.proofs.Resources.{new-read, same-at}
use Rattle.wcv_safety.proofs.Written.{Asked, written-found}

-- ## The substitution

-- lists agree still where a resource that is new is read otherwise
one-reread : (g : Name → Name) (r token : Name) (v : Value_stack) (s : Tree_stack) → IsNewIn s r → AgreeReadings g v s → AgreeReadings (with_token g r token) v s
one-reread g r token v s n a = record {
  stacks = record {
    groups = a.stacks.groups;
    all = subst (λ (ts : Tokens). AgreeAll v.groups ts (with_token g r token) (v.top ∷ v.outer) (s.top ∷ s.outer)) (append-nil v.top.defined) (
      context-reread v.groups g (with_token g r token) v.top.defined [] v.top s.top (same-at g r token v.groups s.top n.top) a.stacks.all.0,
      contexts-reread v.groups g (with_token g r token) v.top.defined [] v.outer s.outer (All-weaker (IsNewTo r) (SameAt v.groups g (with_token g r token)) (same-at g r token v.groups) s.outer n.outer) a.stacks.all.1,
    );
  };
  sides = λ d. named-reread v.groups g (with_token g r token) (v.top.side d) (s.top.side d) ((same-at g r token v.groups s.top n.top).entries.side d) (a.sides d);
}

pub opened-reread : (rs : List (Name × List ℕ)) (g o : Name → Name) (v : Value_stack) (s : Tree_stack) → All (λ r. IsNewIn s r.0) rs → AgreeReadings g v s → AgreeReadings (with_opened rs o g) v s
opened-reread [] g o v s n a = a
opened-reread (r ∷ rs) g o v s n a =
    one-reread (with_opened rs o g) r.0 (o r.0) v s (All-head (λ (r : Name × List ℕ). IsNewIn s r.0) r rs n) (opened-reread rs g o v s (All-tail (λ (r : Name × List ℕ). IsNewIn s r.0) r rs n) a)

module _ (ts : Tokens) (g o : Name → Name) where
  -- what is introduced is read as a token
  pub opened-tokens : (rs : List (Name × List ℕ)) → All (λ r. IsToken ts (o r.0)) rs → All (λ r. IsToken ts (with_opened rs o g r.0)) rs
  opened-tokens [] w = All-nil (λ (r : Name × List ℕ). IsToken ts (g r.0))
  opened-tokens (r ∷ rs) w =
      All-cons (λ (q : Name × List ℕ). IsToken ts (with_opened (r ∷ rs) o g q.0)) r rs (subst (IsToken ts) (sym (new-read (with_opened rs o g) r.0 (o r.0))) head)
      (All-weaker (λ (q : Name × List ℕ). IsToken ts (with_opened rs o g q.0)) (λ (q : Name × List ℕ). IsToken ts (with_opened (r ∷ rs) o g q.0)) (λ q t. either (same q.0 r.0) (with_opened rs o g q.0) t) rs (opened-tokens rs (All-tail (λ (q : Name × List ℕ). IsToken ts (o q.0)) r rs w)))
    where
      head : IsToken ts (o r.0)
      head = All-head (λ (q : Name × List ℕ). IsToken ts (o q.0)) r rs w

      either : (b : Bool) (x : Name) → IsToken ts x → IsToken ts (cond b (o r.0) x)
      either true x t = head
      either false x t = t

-- ## The test

module _ (gs : List Group) (table : IsTable gs) (supers : SupersKeepForm gs) (h : Name → Name) (x : Value) (b : Brought tree_reader) (w : Brought value_reader) (k : Asked gs h b w) (m : Fits gs h (type_over x) b.entity) where
  -- what fits the entity fits what the machine has written there
  fits-asked : FitsWritten gs x w
  fits-asked = (k.reads, λ n y l. All-contains Of (([], type_over w.entity) ∷ []) (n, y) (All-cons Of ([], type_over w.entity) [] (type_over x, refl, one) (All-nil Of)) l)
    where
      Of : Text × Type_tree → Type 0
      Of e = Found bytes_eq (λ (y z : Type_tree). MatchesAs (ItemsMatch gs) {A = Name} (λ r. r) (opened_by k.reads (importing_alone w)) y z) (([], type_over x) ∷ []) e.0 e.1

      one : MatchesAs (ItemsMatch gs) {A = Name} (λ r. r) (opened_by k.reads (importing_alone w)) (type_over x) (type_over w.entity)
      one = MatchesAs-trans (ItemsMatch gs) (items_go_on gs table supers) (λ r. r) h (opened_by k.reads (importing_alone w)) (type_over x) b.entity (type_over w.entity) m k.fits

  pub passes-test : IsTold gs (type_over x) → IsTold gs (importing_alone w) → fits_written gs x w ≡ true
  passes-test t u = (fits-decided gs x w table t.0 t.1 u.0 u.1).1 fits-asked

  -- created types of what fits fit
  pub created-fit : AllAlike gs (type_over x) → sort b.entity ≡ is_type → Fits gs h (trees.created (type_over x)) (trees.created b.entity)
  created-fit l e =
      let a : Type_tree = type_over x in
      let j : sort a ≡ is_type = matched-sort (ItemsMatch gs) {A = Name} (λ r. r) h a b.entity m ∙ e in
      let both : Fits gs h (type_entry (tree.created a)) (type_entry (referenced b.entity)) =
      MatchesAs-trans (ItemsMatch gs) (items_go_on gs table supers) (λ r. r) (λ r. r) h (type_entry (tree.created a)) (type_entry (referenced a)) (type_entry (referenced b.entity)) (both-alike gs a j l)
      (entry-matches (ItemsMatch gs) {A = Name} (λ r. r) h a b.entity j m) in
      subst (λ (z : Type_tree). Fits gs h z (trees.created b.entity)) (sym (created-is a j)) (k.created e (tree.created a) both)

-- ## The step

module _ (names other : Names) (p q : Place) (h : Name → Name) (v : Value_stack) (s : Tree_stack) (table : IsTable v.groups) (supers : SupersKeepForm v.groups) (stand : BothStand v s) (a : AgreeReadings h v s) where
  argument-found : (args : Arguments) (i : ComponentImport) (x : Value) (w : Brought value_reader) → written (value_maker other q) v.top i.ty ≡ Some w → lookup (bytes_eq i.name.name) args ≡ Some x → fits_written v.groups x w ≡ true →
      argument_for (value_maker other q) v args i ≡ Some (bare value_reader x)
  argument-found args i x w e f t =
      ap (option_and_then (λ (b : Brought value_reader). option_and_then (λ (y : Value). if_fits v.groups y b) (lookup (bytes_eq i.name.name) args))) e
      ∙ (ap (option_and_then (λ (y : Value). if_fits v.groups y w)) f ∙ ap (λ (c : Bool). cond {A = Option (Brought value_reader)} c (Some (bare value_reader x)) None) t)

  pub import-follows : (args : Arguments) (i : ComponentImport) (b : Brought tree_reader) (x : Value) → written (tree_maker names p) s.top i.ty ≡ Some b → OwnsNoneThere i.ty b → lookup (bytes_eq i.name.name) args ≡ Some x →
      Fits v.groups h (type_over x) b.entity → All (λ r. IsToken v.top.defined (h r.0)) b.resources → AllAlike v.groups (type_over x) → IsTold v.groups (type_over x) → WrittenIsTold (value_maker other q) v i.ty →
      (y : Step tree_reader) → entry.import_step (tree_maker names p) s.top i ≡ Some y → (z : Step value_reader) × (import_step (value_maker other q) v args i ≡ Some z) × AgreeReadings h (apply z v) (apply y s)
  import-follows args i b x e none f m tokens alike told there y g =
      let l = mapped-some (enters {X = tree_reader} importing (extern_name i.name)) (new_there importing (extern_name i.name) s.top (written (tree_maker names p) s.top i.ty)) y g in
      let k = new-some {X = tree_reader} importing (extern_name i.name) s.top (written (tree_maker names p) s.top i.ty) l.0 l.1 in
      let same : b ≡ l.0 = some-inj (sym e ∙ k.1) in
      let w = written-found names other p q v.groups v.top.defined h v.top s.top a.stacks.all.0 stand.types i.ty b none e in
      let argument : argument_for (value_maker other q) v args i ≡ Some (bare value_reader x) = argument-found args i x w.0 w.1 f (passes-test v.groups table supers h x b w.0 w.2 m told (there w.0 w.1)) in
      let new : is_new importing (extern_name i.name).name v.top ≡ true = new-same h v s importing (extern_name i.name).name a ∙ k.0 in
      let one : Step value_reader = enters importing (extern_name i.name) (bare value_reader x) in (
        one,
        ap (λ (o : Option (Brought value_reader)). option_map (enters importing (extern_name i.name)) (new_there importing (extern_name i.name) v.top o)) argument
            ∙ ap (λ (c : Bool). option_map (enters {X = value_reader} importing (extern_name i.name)) (cond c (Some (bare value_reader x)) None)) new,
        subst (λ (z : Step tree_reader). AgreeReadings h (apply one v) (apply z s)) (ap (enters {X = tree_reader} importing (extern_name i.name)) same ∙ l.2)
            (enters-agree h v s a (extern_name i.name) (extern_name i.name) x b importing refl (named-agrees v.groups h w.2.kind (sort b.entity) (type_over x) b.entity w.2.sorted m)
            (matched-sort (ItemsMatch v.groups) {A = Name} (λ r. r) h (type_over x) b.entity m)
            (λ j. created-agrees v.groups h x b.entity j (created-fit v.groups table supers h x b w.0 w.2 m alike j)) tokens),
      )
