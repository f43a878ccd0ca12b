-- An import or an export joins both: under the same name, as things that agree.
use Rattle.std.proofs.Common.{◌≡◌, ℕ, List, [], ◌∷◌, Bool, true, false, cond, not, Option, Some, None, refl, sym, ap, subst, ◌⊎◌, inl, inr, append-nil}
use Rattle.std.specs.Prelude.{All, Contains}
use Rattle.std.specs.List.{AllZip}
use Rattle.std.proofs.lemmas.List.Elements.{All-nil, All-cons, All-contains, Contains-append_cases}
use Rattle.wcv_core.specs.CoreForm.{Group}
use Rattle.wcv_core.specs.Names.{Name}
use Rattle.wcv_core.specs.declared.core_types.ValType.{ValType}
use Rattle.wcv_types.specs.Tree.{Text, Extern_name, Sort, is_type, sort}
use Rattle.wcv_types.specs.Unfold.{Type_tree}
use Rattle.wcv_names.specs.Externs.{entry_names}
use Rattle.wcv_lower.specs.Checks.{is_among}
use Rattle.wcv_lower.specs.Context.{Context, Side, importing, exporting, same_side, introduce, unknown}
use Rattle.wcv_lower.specs.Entries.{is_new, new_there}
use Rattle.wcv_lower.specs.Owned.{IsOwn}
use Rattle.wcv_lower.specs.Readers.{Reader, Brought}
use Rattle.wcv_lower.specs.Step.{Step, introduces, lists, creates, change, apply, bare, joins, enters}
use Rattle.wcv_lower.specs.Trees.{Tree_context, Tree_stack, tree_reader}
use Rattle.wcv_lower.proofs.Members.{introduced_own}
use Rattle.wcv_world.specs.Growth.{Tokens}
use Rattle.wcv_world.specs.Reading.{Value_context, Value_stack, value_reader}
use Rattle.wcv_world.specs.Values.{Value, type_over}
use Rattle.wcv_safety.specs.Agreeing.{IsToken, Agrees, AgreesNamed, AgreeContexts, AgreeStacks, AgreeReadings}
use Rattle.wcv_safety.proofs.Agreeing.{SameLists, left-same, both-unseen, joins-agree, readings}
use Rattle.wcv_safety.proofs.Lists.{zip-joined}
use Rattle.wcv_safety.proofs.Quiet.{quiet-joins, quiet-top}

-- ## Resources that are introduced

pub none-introduced : {X : Reader} (d : Side) (c : Context X) → SameLists (introduce d [] c) c
none-introduced importing c = record { space = λ k. refl; core = λ k. refl; imported = append-nil c.imported; defined = refl }
none-introduced exporting c = record { space = λ k. refl; core = λ k. refl; imported = refl; defined = append-nil c.defined }

-- those that are introduced have no representation
all-unknown : (rs : List (Name × List ℕ)) → All (λ (x : Name × Option ValType). x.1 ≡ None) (unknown rs)
all-unknown [] = All-nil (λ (x : Name × Option ValType). x.1 ≡ None)
all-unknown (r ∷ rs) = All-cons (λ (x : Name × Option ValType). x.1 ≡ None) (r.0, None) (unknown rs) refl (all-unknown rs)

none-known : (rs : List (Name × List ℕ)) (r : Name) (x : ValType) → Contains (unknown rs) (r, Some x) → ⊥
none-known rs r x c = absurd-some (All-contains (λ (y : Name × Option ValType). y.1 ≡ None) (unknown rs) (r, Some x) (all-unknown rs) c)
  where
    absurd-some : Some x ≡ None → ⊥
    absurd-some e = cc

module _ (gs : List Group) (ts : Tokens) (g : Name → Name) (v : Value_context) (c : Tree_context) where
  own-tokens : (d : Side) (rs : List (Name × List ℕ)) → All (λ r. IsToken ts (g r.0)) rs → AgreeContexts gs ts g v c → (r : Name) → IsOwn (introduce {X = tree_reader} d rs c) r → IsToken ts (g r)
  own-tokens d rs w a r e = go (introduced_own (λ q. IsToken ts (g q)) c d rs w r e)
    where
      go : IsOwn c r ⊎ IsToken ts (g r) → IsToken ts (g r)
      go (inl o) = a.tokens r o
      go (inr t) = t

  pub introduce-agrees : (d : Side) (rs : List (Name × List ℕ)) → All (λ r. IsToken ts (g r.0)) rs → AgreeContexts gs ts g v c → AgreeContexts gs ts g v (introduce d rs c)
  introduce-agrees importing rs w a = record { space = a.space; core = a.core; types = a.types; tokens = own-tokens importing rs w a; defined = a.defined }
  introduce-agrees exporting rs w a = record {
    space = a.space;
    core = a.core;
    types = a.types;
    tokens = own-tokens exporting rs w a;
    defined = λ r x e. old r x (Contains-append_cases c.defined (unknown rs) (r, Some x) e);
  }
    where
      old : (r : Name) (x : ValType) → Contains c.defined (r, Some x) ⊎ Contains (unknown rs) (r, Some x) → Contains ts (g r, Some x)
      old r x (inl k) = a.defined r x k
      old r x (inr k) = absurd (none-known rs r x k)

-- ## Entering

-- names of entries that agree are the same
pub names-same : (gs : List Group) (g : Name → Name) (xs : List (Extern_name × Value)) (es : List (Extern_name × Type_tree)) → AllZip (AgreesNamed gs g) xs es → entry_names xs ≡ entry_names es
names-same gs g [] [] w = refl
names-same gs g [] (e ∷ es) w = absurd w
names-same gs g (x ∷ xs) [] w = absurd w
names-same gs g (x ∷ xs) (e ∷ es) w = λ j. w.0.0 j ∷ names-same gs g xs es w.1 j

-- a name is new in one where it is new in the other
pub new-same : (g : Name → Name) (v : Value_stack) (s : Tree_stack) (d : Side) (n : Text) → AgreeReadings g v s → is_new d n v.top ≡ is_new d n s.top
new-same g v s d n a = ap (λ (ns : List Text). not (is_among n ns)) (names-same v.groups g (v.top.side d) (s.top.side d) (a.sides d))

pub new-some : {X : Reader} (d : Side) (n : Extern_name) (c : Context X) (o : Option (Brought X)) (b : Brought X) → new_there d n c o ≡ Some b → (is_new d n.name c ≡ true) × (o ≡ Some b)
new-some d n c o b e = go (is_new d n.name c) e
  where
    go : (k : Bool) → cond k o None ≡ Some b → (k ≡ true) × (o ≡ Some b)
    go true e = (refl, e)
    go false e = cc

module _ (g : Name → Name) (v : Value_stack) (s : Tree_stack) (a : AgreeReadings g v s) (n m : Extern_name) (x : Value) (b : Brought tree_reader) where
  abbrev listed-left : Side → Value_stack
  listed-left d = change (creates d (value_reader.creates x)) (change (lists d n x) (change (introduces d []) v))

  abbrev listed-right : Side → Tree_stack
  listed-right d = change (creates d (tree_reader.creates b.entity)) (change (lists d m b.entity) (change (introduces d b.resources) s))

  stacks-listed : (d : Side) → All (λ r. IsToken v.top.defined (g r.0)) b.resources → AgreeStacks v.top.defined g (listed-left d) (listed-right d)
  stacks-listed d w =
      both-unseen v.top.defined g (lists d n x ∷ creates d (value_reader.creates x) ∷ []) (lists d m b.entity ∷ creates d (tree_reader.creates b.entity) ∷ []) (change (introduces d []) v) (change (introduces d b.resources) s) (tt, (tt, tt)) (tt, (tt, tt))
      (record {
        groups = a.stacks.groups;
        all = (
          left-same v.groups v.top.defined g v.top (introduce d [] v.top) (introduce d b.resources s.top) (none-introduced {X = value_reader} d v.top)
              (introduce-agrees v.groups v.top.defined g v.top s.top d b.resources w a.stacks.all.0),
          a.stacks.all.1,
        );
      })

  listed : (d : Side) → n.name ≡ m.name → Agrees v.groups g x b.entity → All (λ r. IsToken v.top.defined (g r.0)) b.resources → AgreeReadings g (listed-left d) (listed-right d)
  listed importing q r w = record {
    stacks = stacks-listed importing w;
    sides = λ j. zip-joined (AgreesNamed v.groups g) (same_side j importing) (v.top.side j) (s.top.side j) (n, x) (m, b.entity) (a.sides j) (λ e. (q, r));
  }
  listed exporting q r w = record {
    stacks = subst (λ (ts : Tokens). AgreeStacks ts g (listed-left exporting) (listed-right exporting)) (sym (append-nil v.top.defined)) (stacks-listed exporting w);
    sides = λ j. zip-joined (AgreesNamed v.groups g) (same_side j exporting) (v.top.side j) (s.top.side j) (n, x) (m, b.entity) (a.sides j) (λ e. (q, r));
  }

  pub enters-agree : (d : Side) → n.name ≡ m.name → Agrees v.groups g x b.entity → sort (type_over x) ≡ sort b.entity → (sort b.entity ≡ is_type → Agrees v.groups g (value_reader.created x) (tree_reader.created b.entity)) →
      All (λ r. IsToken v.top.defined (g r.0)) b.resources → AgreeReadings g (apply (enters d n (bare value_reader x)) v) (apply (enters d m b) s)
  enters-agree d q r k c w =
      let l : AgreeReadings g (listed-left d) (listed-right d) = listed d q r w in
      let one : Step value_reader = joins value_reader (same_side d exporting) (sort (type_over x)) x in
      let two : Step tree_reader = joins tree_reader (same_side d exporting) (sort b.entity) b.entity in
      readings g (listed-left d) (apply one (listed-left d)) (listed-right d) (apply two (listed-right d))
      (quiet-top one (listed-left d) (quiet-joins value_reader (same_side d exporting) (sort (type_over x)) x))
      (quiet-top two (listed-right d) (quiet-joins tree_reader (same_side d exporting) (sort b.entity) b.entity)) l
      (subst (λ (h : Sort). AgreeStacks (listed-left d).top.defined g (apply (joins value_reader (same_side d exporting) h x) (listed-left d)) (apply two (listed-right d))) (sym k)
      (joins-agree (listed-left d).top.defined g (same_side d exporting) (same_side d exporting) (sort b.entity) (listed-left d) (listed-right d) x b.entity l.stacks r c))
