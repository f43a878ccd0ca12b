-- Agreement goes by what is free: under a substitution that reads the same there, lists that agree still do; and it stays where there are
-- more tokens.
use Rattle.std.proofs.Common.{◌≡◌, List, [], ◌∷◌, ◌++◌, Some, refl, subst, ◌⊎◌, inl, inr}
use Rattle.std.specs.Prelude.{All, Contains}
use Rattle.std.specs.List.{AllZip}
use Rattle.std.proofs.lemmas.List.Elements.{All-head, All-tail, Contains-append_left}
use Rattle.wcv_core.specs.CoreForm.{Group}
use Rattle.wcv_core.specs.Names.{Name}
use Rattle.wcv_core.specs.declared.core_types.ValType.{ValType}
use Rattle.wcv_types.specs.Resources.{Free}
use Rattle.wcv_types.specs.Tree.{Sort, is_nothing, is_value, is_resource, is_func, is_instance, is_component, is_type, is_module, is_core_instance, is_core_type, is_core_item, Extern_name, sort}
use Rattle.wcv_types.specs.Unfold.{Type_tree}
use Rattle.wcv_matching.specs.ModuleItems.{ItemsMatch}
use Rattle.wcv_lower.specs.Context.{core_types}
use Rattle.wcv_lower.specs.NewTypes.{type_entry}
use Rattle.wcv_lower.specs.Owned.{AllEntries, IsOwn}
use Rattle.wcv_lower.specs.Trees.{Tree_context}
use Rattle.wcv_world.specs.Growth.{Tokens}
use Rattle.wcv_world.specs.Reading.{Value_context}
use Rattle.wcv_world.specs.Values.{Value, type_over}
use Rattle.wcv_safety.specs.Agreeing.{IsToken, Agrees, AgreesAs, AgreesAsType, AgreesNamed, AgreeContexts, AgreeAll}
use Rattle.wcv_safety.specs.Fitting.{Fits}
use Rattle.wcv_safety.proofs.Composing.{MatchesAs-map}

-- both substitutions read alike what is free in the type
abbrev pub SameIn : (Name → Name) → (Name → Name) → Type_tree → Type 0
SameIn g h t = (r : Name) → Free r t → g r ≡ h r

entry-free : (r : Name) (t : Type_tree) → Free r (type_entry t) → Free r t
entry-free r t (inl x) = absurd x
entry-free r t (inr x) = go x.1
  where
    go : Free r t ⊎ (Free r t ⊎ ⊥) → Free r t
    go (inl y) = y
    go (inr (inl y)) = y
    go (inr (inr y)) = absurd y

module _ (gs : List Group) (g h : Name → Name) where
  fits-reread : (a t : Type_tree) → SameIn g h t → Fits gs g a t → Fits gs h a t
  fits-reread a t s m = MatchesAs-map (ItemsMatch gs) (λ r. r) (λ r. r) g (λ r. r) h a t (λ r z. refl) s m

  agrees-reread : (k : Sort) (a t : Type_tree) → SameIn g h t → AgreesAs k gs g a t → AgreesAs k gs h a t
  agrees-reread is_nothing a t s m = fits-reread a t s m
  agrees-reread is_value a t s m = fits-reread a t s m
  agrees-reread is_resource a t s m = fits-reread a t s m
  agrees-reread is_func a t s m = fits-reread a t s m
  agrees-reread is_instance a t s m = fits-reread a t s m
  agrees-reread is_component a t s m = fits-reread a t s m
  agrees-reread is_type a t s m = fits-reread a t s m
  agrees-reread is_module a t s m = fits-reread a t s m
  agrees-reread is_core_instance a t s m = m
  agrees-reread is_core_type a t s m = fits-reread a t s m
  agrees-reread is_core_item a t s m = m

  all-reread : (xs : List Value) (ts : List Type_tree) → All (SameIn g h) ts → AllZip (Agrees gs g) xs ts → AllZip (Agrees gs h) xs ts
  all-reread [] [] s w = tt
  all-reread [] (t ∷ ts) s w = absurd w
  all-reread (x ∷ xs) [] s w = absurd w
  all-reread (x ∷ xs) (t ∷ ts) s w = (agrees-reread (sort t) (type_over x) t (All-head (SameIn g h) t ts s) w.0, all-reread xs ts (All-tail (SameIn g h) t ts s) w.1)

  types-reread : (xs : List Value) (ts : List Type_tree) → All (SameIn g h) ts → AllZip (AgreesAsType gs g) xs ts → AllZip (AgreesAsType gs h) xs ts
  types-reread [] [] s w = tt
  types-reread [] (t ∷ ts) s w = absurd w
  types-reread (x ∷ xs) [] s w = absurd w
  types-reread (x ∷ xs) (t ∷ ts) s w =
      (fits-reread (type_entry (type_over x)) (type_entry t) (λ r f. All-head (SameIn g h) t ts s r (entry-free r t f)) w.0, types-reread xs ts (All-tail (SameIn g h) t ts s) w.1)

  pub named-reread : (xs : List (Extern_name × Value)) (es : List (Extern_name × Type_tree)) → All (λ (e : Extern_name × Type_tree). SameIn g h e.1) es → AllZip (AgreesNamed gs g) xs es → AllZip (AgreesNamed gs h) xs es
  named-reread [] [] s w = tt
  named-reread [] (e ∷ es) s w = absurd w
  named-reread (x ∷ xs) [] s w = absurd w
  named-reread (x ∷ xs) (e ∷ es) s w = (
    (w.0.0, agrees-reread (sort e.1) (type_over x.1) e.1 (All-head (λ (e : Extern_name × Type_tree). SameIn g h e.1) e es s) w.0.1),
    named-reread xs es (All-tail (λ (e : Extern_name × Type_tree). SameIn g h e.1) e es s) w.1,
  )

  -- both read alike what is free in an entry, and what the context imports or defines
  pub record SameAt (c : Tree_context) : Type 0 where
    pub entries : AllEntries (SameIn g h) c
    pub own : (r : Name) → IsOwn c r → g r ≡ h r
    pub defined : (r : Name) (x : ValType) → Contains c.defined (r, Some x) → g r ≡ h r

  pub context-reread : (ts more : Tokens) (v : Value_context) (c : Tree_context) → SameAt c → AgreeContexts gs ts g v c → AgreeContexts gs (ts ++ more) h v c
  context-reread ts more v c s a = record {
    space = λ k. all-reread (v.space k) (c.space k) (s.entries.space k) (a.space k);
    core = λ k. all-reread (v.core k) (c.core k) (s.entries.core k) (a.core k);
    types = types-reread (v.core core_types) (c.core core_types) (s.entries.core core_types) a.types;
    tokens = λ r o. subst (λ (x : Name). IsToken (ts ++ more) x) (s.own r o) ((a.tokens r o).0, Contains-append_left ts more (g r, (a.tokens r o).0) (a.tokens r o).1);
    defined = λ r x k. subst (λ (y : Name). Contains (ts ++ more) (y, Some x)) (s.defined r x k) (Contains-append_left ts more (g r, Some x) (a.defined r x k));
  }

  pub contexts-reread : (ts more : Tokens) (vs : List Value_context) (cs : List Tree_context) → All SameAt cs → AgreeAll gs ts g vs cs → AgreeAll gs (ts ++ more) h vs cs
  contexts-reread ts more [] [] s w = tt
  contexts-reread ts more [] (c ∷ cs) s w = absurd w
  contexts-reread ts more (v ∷ vs) [] s w = absurd w
  contexts-reread ts more (v ∷ vs) (c ∷ cs) s w = (context-reread ts more v c (All-head SameAt c cs s) w.0, contexts-reread ts more vs cs (All-tail SameAt c cs s) w.1)
