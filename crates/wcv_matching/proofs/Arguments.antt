-- Arguments join a map from their names.
use Rattle.std.proofs.Common.{◌≡◌, List, ◌∷◌, Bool, true, false, cond, Option, Some, None, refl, sym, ◌∙◌, ap, subst, bytes_eq, Bor, nat_cmp}
use Rattle.std.specs.Prelude.{IfSome}
use Rattle.std.specs.BTreeMap.{BTreeMap, Updates}
use Rattle.std.specs.Cmp.Lexicographic.{slice_cmp}
use Rattle.std.specs.Map.{lookup}
use Rattle.std.proofs.lemmas.Map.Text.{btree_map_updates_str}
use Rattle.wcv_core.specs.declared.core_types.EntityType.{EntityType}
use Rattle.wcv_types.specs.Tree.{Text}
use Rattle.wcv_closed.proofs.ModuleMatching.{texts_equiv}
use Rattle.wcv_matching.specs.ByName.{held}
use Rattle.wcv_closed.specs.CoreModules.{IsServed}
use Rattle.wcv_matching.specs.CoreArguments.{HeldAs, if_there, export_under}
use Rattle.wcv_matching.specs.Standings.{FoundAs}
use Rattle.wcv_matching.proofs.Found.{both_carried}

abbrev Held : Type 0
Held = BTreeMap (Bor Text) EntityType

abbrev Exported : Type 0
Exported = List (Text × EntityType)

pub argument_joins : (m n : BTreeMap (Bor Text) Held) (k : Bor Text) (v : Held) (es : Exported) (fs more : List (Text × Exported)) → Updates (λ x y. slice_cmp nat_cmp x.now y.now) m n k (Some v)
    → more ≡ (k.now, es) ∷ fs → ((q : Text) → held v q ≡ lookup (bytes_eq q) es) → ((q : Text) → HeldAs (held m q) (lookup (bytes_eq q) fs)) → (q : Text) → HeldAs (held n q) (lookup (bytes_eq q) more)
argument_joins m n k v es fs more u e f g q =
    let left : cond (bytes_eq q k.now) (Some v) (held m q) ≡ held n q = ap (λ (b : Bool). cond b (Some v) (held m q)) (texts_equiv.symm q k.now) ∙ sym (btree_map_updates_str k.now m n (Some v) u q) in
    both_carried HeldAs _ _ _ _ left (sym (ap (lookup (bytes_eq q)) e)) (go (bytes_eq q k.now))
  where
    go : (b : Bool) → HeldAs (cond b (Some v) (held m q)) (cond b (Some es) (lookup (bytes_eq q) fs))
    go true = f
    go false = g q

pub within_joins : (P : EntityType → Type 0) (m n : BTreeMap (Bor Text) Held) (k : Bor Text) (v : Held) → Updates (λ x y. slice_cmp nat_cmp x.now y.now) m n k (Some v)
    → ((q : Text) → IfSome (held v q) P) → (i : Text × Text) → IfSome (export_under m i) P → IfSome (export_under n i) P
within_joins P m n k v u f i old =
    subst (λ (o : Option Held). IfSome (if_there o (λ x. held x i.1)) P) (sym (btree_map_updates_str k.now m n (Some v) u i.0)) (go (bytes_eq k.now i.0))
  where
    go : (b : Bool) → IfSome (if_there (cond b (Some v) (held m i.0)) (λ x. held x i.1)) P
    go true = f i.1
    go false = old

-- ## What is served

-- what the maps have under two names is what the arguments export
pub under_served : (items : BTreeMap (Bor Text) Held) (args : List (Text × Exported)) (i : Text × Text) → HeldAs (held items i.0) (lookup (bytes_eq i.0) args)
    → export_under items i ≡ if_there (lookup (bytes_eq i.0) args) (λ es. lookup (bytes_eq i.1) es)
under_served items args i h = go (held items i.0) (lookup (bytes_eq i.0) args) h
  where
    go : (o : Option Held) (p : Option Exported) → HeldAs o p → if_there o (λ m. held m i.1) ≡ if_there p (λ es. lookup (bytes_eq i.1) es)
    go None None h = refl
    go (Some m) (Some es) h = h i.1
    go None (Some es) h = elim h [ ]
    go (Some m) None h = elim h [ ]

one_some : {A : Type 0} (x y : A) → Some x ≡ Some y → x ≡ y
one_some x y e = cc

pub served_from : (C : EntityType → EntityType → Type 0) (args : List (Text × Exported)) (i : Text × Text) (item : EntityType)
    → FoundAs C (if_there (lookup (bytes_eq i.0) args) (λ es. lookup (bytes_eq i.1) es)) item → IsServed C args i item
served_from C args i item f = go (lookup (bytes_eq i.0) args) refl f
  where
    go : (o : Option Exported) → lookup (bytes_eq i.0) args ≡ o → FoundAs C (if_there o (λ es. lookup (bytes_eq i.1) es)) item → IsServed C args i item
    go None e f = let g : None ≡ Some f.0 = f.1 in cc
    go (Some es) e f = (es, e, f)

pub served_to : (C : EntityType → EntityType → Type 0) (args : List (Text × Exported)) (i : Text × Text) (item : EntityType)
    → IsServed C args i item → FoundAs C (if_there (lookup (bytes_eq i.0) args) (λ es. lookup (bytes_eq i.1) es)) item
served_to C args i item s = subst (λ (o : Option Exported). FoundAs C (if_there o (λ es. lookup (bytes_eq i.1) es)) item) (sym s.1) s.2
