-- The node at the end of a declared type or of a component: what is free in it is near in the contexts around, it is sound, and it owns what its context lists.
use Rattle.std.proofs.Common.{◌≡◌, ℕ, zero, List, [], ◌∷◌, Bool, true, false, ◌||◌, cond, refl, sym, ◌∙◌, ap, subst, Some, None, ◌⊎◌, inl, inr}
use Rattle.std.specs.Prelude.{All, Option}
use Rattle.std.specs.Option.{option_map}
use Rattle.std.proofs.lemmas.Bool.{false≢true, or_cases}
use Rattle.std.proofs.lemmas.List.Elements.{All-head, All-tail, All-map, All-weaker}
use Rattle.wcv_core.specs.Names.{Name, Place, member}
use Rattle.wcv_core.specs.declared.core_types.ValType.{ValType}
use Rattle.wcv_types.specs.Led.{HasPath}
use Rattle.wcv_types.specs.Paths.{PathLeadsTo}
use Rattle.wcv_types.specs.Resources.{is_free, Free, FreeIn}
use Rattle.wcv_types.specs.Tree.{Extern_name, Role, import, export, Parts, none, entries, exports_in, imports_in, firsts}
use Rattle.wcv_types.proofs.IsFree.{is_free-free, free-is_free}
use Rattle.wcv_matching.specs.Orderly.{height}
use Rattle.wcv_lower.specs.Context.{Side, importing, exporting, is_concrete}
use Rattle.wcv_lower.specs.Ending.{is_free_among, any_free, kept, component_of, component_made, instance_made}
use Rattle.wcv_lower.specs.Even.{IsBalanced}
use Rattle.wcv_lower.specs.Owned.{OwnsNot, OwnApart, AllEntries}
use Rattle.wcv_lower.specs.Readers.{New_node}
use Rattle.wcv_lower.specs.Trees.{Type_tree, Entries, Tree_context, Tree_stack, tree_reader, node_tree}
use Rattle.wcv_lower.proofs.EvenTypes.{balanced_inherited}
use Rattle.wcv_lower.proofs.Given.{or_left, or_right, not_so}
use Rattle.wcv_lower.proofs.Members.{firsts_map}
use Rattle.wcv_lower.proofs.Owning.{Inherited, owns_not_inherited, own_apart_inherited, entries_have}
use Rattle.wcv_growth.proofs.Having.{Has, Once, names_in, member-has, has-member}
use Rattle.wcv_growth.proofs.Kept.{any-free, kept-has, kept-old, kept-once, kept-leads}
use Rattle.wcv_growth.proofs.Known.{mapped-some, Fine, In}
use Rattle.wcv_growth.proofs.Near.{NearAmong, Near, IsFine}
use Rattle.wcv_growth.proofs.Settled.{Settles}
use Rattle.wcv_growth.proofs.Sound.{Differ, IsSound, entries-sound}

-- ## Entries

among-fine : (P : Name → Type 0) (es : Entries) (r : Name) → All (λ e. Fine P e.1) es → is_free_among tree_reader r es ≡ true → P r
among-fine P [] r a e = absurd (false≢true e)
among-fine P (x ∷ es) r a e = go (is_free r x.1) refl e (λ w. among-fine P es r (All-tail (λ (e : Extern_name × Type_tree). Fine P e.1) x es a) w)
  where
    go : (b : Bool) → is_free r x.1 ≡ b → (b || is_free_among tree_reader r es) ≡ true → (is_free_among tree_reader r es ≡ true → P r) → P r
    go true f w later = (All-head (λ (e : Extern_name × Type_tree). Fine P e.1) x es a).0 r (is_free-free r x.1 f)
    go false f w later = later w

-- what is free in an entry of a side is near
pub free-near : (u : Tree_stack) → IsFine u → (d : Side) (r : Name) → is_free_among tree_reader r (u.top.side d) ≡ true → Near u r
free-near u h d r e = among-fine (Near u) (u.top.side d) r (h.0.entries.side d) e

-- what is free in parts that are entries is free in an entry
free-among : (role : Extern_name → Role) (es : Entries) (rest : Parts Name Name) (r : Name) → FreeIn r (entries role es rest) → (is_free_among tree_reader r es ≡ true) ⊎ FreeIn r rest
free-among role [] rest r x = inr x
free-among role (e ∷ es) rest r (inl x) = inl (or_left (is_free r e.1) (is_free_among tree_reader r es) (free-is_free r e.1 x))
free-among role (e ∷ es) rest r (inr x) = further (free-among role es rest r x)
  where
    further : (is_free_among tree_reader r es ≡ true) ⊎ FreeIn r rest → ((is_free r e.1 || is_free_among tree_reader r es) ≡ true) ⊎ FreeIn r rest
    further (inl f) = inl (or_right (is_free r e.1) (is_free_among tree_reader r es) f)
    further (inr f) = inr f

pub all-exports : (es : Entries) → exports_in (entries export es none) ≡ es
all-exports [] = refl
all-exports (e ∷ es) = ap (λ (xs : Entries). e ∷ xs) (all-exports es)

no-imports : (es : Entries) → imports_in (entries export es none) ≡ []
no-imports [] = refl
no-imports (e ∷ es) = no-imports es

all-imports : (es outs : Entries) → imports_in (entries import es (entries export outs none)) ≡ es
all-imports [] outs = no-imports outs
all-imports (e ∷ es) outs = ap (λ (xs : Entries). e ∷ xs) (all-imports es outs)

pub exports-behind : (es : Entries) (rest : Parts Name Name) → exports_in (entries import es rest) ≡ exports_in rest
exports-behind [] rest = refl
exports-behind (e ∷ es) rest = exports-behind es rest

-- ## Names

once-differ : {X : Type 0} (xs : List (Name × X)) → Once xs → Differ (names_in xs)
once-differ [] o = tt
once-differ (x ∷ xs) o = (not_so (member x.0 (names_in xs)) (λ e. o.0 (member-has xs x.0 e)), once-differ xs o.1)

has-firsts : (rs : List (Name × List ℕ)) (r : Name) → Has rs r → member r (firsts rs) ≡ true
has-firsts rs r h = subst (λ (xs : List Name). member r xs ≡ true) (sym (firsts_map rs)) (has-member rs r h)

pub firsts-has : (rs : List (Name × List ℕ)) (r : Name) → member r (firsts rs) ≡ true → Has rs r
firsts-has rs r e = member-has rs r (subst (λ (xs : List Name). member r xs ≡ true) (firsts_map rs) e)

-- ## The node

-- it is near in the contexts around the top
abbrev pub Around : Tree_stack → Name → Type 0
Around u r = NearAmong (is_concrete u.top.kind) u.outer r

-- the type of declarations that leave the stack
pub record IsClosed (u : Tree_stack) (t : Type_tree) : Type 0 where
  -- what is free in it is near in the contexts around
  pub within : (r : Name) → Free r t → Around u r
  pub sound : IsSound t
  -- it owns what its context lists, and what the entries of that own
  pub owns : (r : Name) → (In u.top r → ⊥) → AllEntries (OwnsNot r) u.top → OwnsNot r t
  pub apart : OwnApart t
  pub balanced : (v : Name → ℕ) → AllEntries (IsBalanced v) u.top → ((r : Name) → In u.top r → height t ≡ v r) → IsBalanced v t

module _ (p : Place) (k : ℕ) (i : Name) (u : Tree_stack) (h : Settles p k u) where
  abbrev c : Tree_context
  c = u.top

  abbrev ins : Entries
  ins = c.side importing

  abbrev outs : Entries
  outs = c.side exporting

  sides-sound : (d : Side) → All (λ (e : Extern_name × Type_tree). IsSound e.1) (c.side d)
  sides-sound d = All-weaker (λ (e : Extern_name × Type_tree). Fine (Near u) e.1) (λ (e : Extern_name × Type_tree). IsSound e.1) (λ e w. w.1) (c.side d) (h.fine.0.entries.side d)

  -- parts that are exports, and imports before them
  exports-have : {P : Type_tree → Type 0} {In : Parts Name Name → Type 0} (law : Inherited P In) → AllEntries P c → In (entries export outs none)
  exports-have law all = entries_have law export outs none (all.side exporting) law.none_in

  sides-have : {P : Type_tree → Type 0} {In : Parts Name Name → Type 0} (law : Inherited P In) → AllEntries P c → In (entries import ins (entries export outs none))
  sides-have law all = entries_have law import ins (entries export outs none) (all.side importing) (exports-have law all)

  -- ## Of an instance type, which imports nothing

  pub instance-closed : is_concrete c.kind ≡ false → c.imported ≡ [] → IsClosed u (node_tree i (instance_made c))
  instance-closed not_concrete no_imports = record {
    within = λ r f. free r f;
    sound = ((once-differ c.defined h.defined_once, led), entries-sound export outs none (sides-sound exporting) tt);
    owns = λ r n all. (not_so (member r (names_in c.defined)) (λ e. n (owned r e)), exports-have (owns_not_inherited r) all);
    apart = ((λ r e. exports-have (owns_not_inherited r) (h.spared r (inl (owned r e)) zero c refl)), exports-have own_apart_inherited (h.apart zero c refl));
    balanced = λ v all high. ((tt, λ r e. high r (owned r e)), exports-have (balanced_inherited v) all);
  }
    where
      led : All (HasPath (exports_in (entries export outs none))) (names_in c.defined)
      led = subst (λ (es : Entries). All (HasPath es) (names_in c.defined)) (sym (all-exports outs)) (All-map (HasPath outs) (λ (x : Name × Option ValType). x.0) c.defined (h.led not_concrete))

      owned : (r : Name) → member r (names_in c.defined) ≡ true → In c r
      owned r e = inr (member-has c.defined r e)

      foreign : (r : Name) → member r (names_in c.defined) ≡ false → Near u r → Around u r
      foreign r o (inl (inl x)) = absurd (subst (λ (rs : List (Name × List ℕ)). Has rs r) no_imports x)
      foreign r o (inl (inr x)) = absurd (false≢true (sym o ∙ has-member c.defined r x))
      foreign r o (inr x) = x

      inside : (r : Name) → member r (names_in c.defined) ≡ false → (is_free_among tree_reader r outs ≡ true) ⊎ FreeIn {I = Name} r none → Around u r
      inside r o (inl f) = foreign r o (free-near u h.fine exporting r f)
      inside r o (inr f) = absurd f

      free : (r : Name) → Free r (node_tree i (instance_made c)) → Around u r
      free r (inl x) = absurd x
      free r (inr x) = inside r x.0 (free-among export outs none r x.1)

  -- ## Of a component type

  module _ (ks : List (Name × List ℕ)) (none_free : any_free tree_reader c.defined ins ≡ false) (are_kept : kept tree_reader c.defined outs ≡ Some ks) where
    abbrev is_own : Name → Bool
    is_own r = member r (firsts c.imported) || member r (firsts ks)

    imported-own : (r : Name) → Has c.imported r → is_own r ≡ true
    imported-own r x = or_left (member r (firsts c.imported)) (member r (firsts ks)) (has-firsts c.imported r x)

    foreign-import : (r : Name) → is_own r ≡ false → is_free_among tree_reader r ins ≡ true → Near u r → Around u r
    foreign-import r o f (inl (inl x)) = absurd (false≢true (sym o ∙ imported-own r x))
    foreign-import r o f (inl (inr x)) = absurd (false≢true (sym none_free ∙ any-free c.defined ins r x f))
    foreign-import r o f (inr x) = x

    foreign-export : (r : Name) → is_own r ≡ false → is_free_among tree_reader r outs ≡ true → Near u r → Around u r
    foreign-export r o f (inl (inl x)) = absurd (false≢true (sym o ∙ imported-own r x))
    foreign-export r o f (inl (inr x)) = absurd (false≢true (sym o ∙ or_right (member r (firsts c.imported)) (member r (firsts ks)) (has-firsts ks r (kept-has outs c.defined ks r are_kept x f))))
    foreign-export r o f (inr x) = x

    owned : (r : Name) → is_own r ≡ true → In c r
    owned r e = go (or_cases (member r (firsts c.imported)) (member r (firsts ks)) e)
      where
        go : (member r (firsts c.imported) ≡ true) ⊎ (member r (firsts ks) ≡ true) → In c r
        go (inl x) = inl (firsts-has c.imported r x)
        go (inr x) = inr (kept-old outs c.defined ks r are_kept (firsts-has ks r x))

    component-node : IsClosed u (node_tree i (component_of c ks))
    component-node = record {
      within = λ r f. free r f;
      sound = ((kept-once outs c.defined ks are_kept h.defined_once, (imports-lead, exports-lead)), entries-sound import ins (entries export outs none) (sides-sound importing) (entries-sound export outs none (sides-sound exporting) tt));
      owns = λ r n all. (not_so (is_own r) (λ e. n (owned r e)), sides-have (owns_not_inherited r) all);
      apart = ((λ r e. sides-have (owns_not_inherited r) (h.spared r (inl (owned r e)) zero c refl)), sides-have own_apart_inherited (h.apart zero c refl));
      balanced = λ v all high. ((tt, λ r e. high r (owned r e)), sides-have (balanced_inherited v) all);
    }
      where
        imports-lead : All (λ x. PathLeadsTo x.1 x.0 (imports_in (entries import ins (entries export outs none)))) c.imported
        imports-lead = subst (λ (es : Entries). All (λ x. PathLeadsTo x.1 x.0 es) c.imported) (sym (all-imports ins outs)) h.leads

        exports-lead : All (λ x. PathLeadsTo x.1 x.0 (exports_in (entries import ins (entries export outs none)))) ks
        exports-lead = subst (λ (es : Entries). All (λ x. PathLeadsTo x.1 x.0 es) ks) (sym (exports-behind ins (entries export outs none) ∙ all-exports outs)) (kept-leads outs c.defined ks are_kept)

        in_exports : (r : Name) → is_own r ≡ false → (is_free_among tree_reader r outs ≡ true) ⊎ FreeIn {I = Name} r none → Around u r
        in_exports r o (inl f) = foreign-export r o f (free-near u h.fine exporting r f)
        in_exports r o (inr f) = absurd f

        in_either : (r : Name) → is_own r ≡ false → (is_free_among tree_reader r ins ≡ true) ⊎ FreeIn r (entries export outs none) → Around u r
        in_either r o (inl f) = foreign-import r o f (free-near u h.fine importing r f)
        in_either r o (inr f) = in_exports r o (free-among export outs none r f)

        free : (r : Name) → Free r (node_tree i (component_of c ks)) → Around u r
        free r (inl x) = absurd x
        free r (inr x) = in_either r x.0 (free-among import ins (entries export outs none) r x.1)

  pub component-closed : (n : New_node tree_reader) → component_made c ≡ Some n → IsClosed u (node_tree i n)
  component-closed n e = go (any_free tree_reader c.defined ins) refl e
    where
      go : (b : Bool) → any_free tree_reader c.defined ins ≡ b → cond b None (option_map (component_of c) (kept tree_reader c.defined outs)) ≡ Some n → IsClosed u (node_tree i n)
      go true f w = cc
      go false f w =
          let m = mapped-some (component_of c) (kept tree_reader c.defined outs) n w in
          subst (λ (x : New_node tree_reader). IsClosed u (node_tree i x)) m.2 (component-node m.0 f m.1)
