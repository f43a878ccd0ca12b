-- Start items: where a context has one, so have the lists that agree with it, and both still agree.
use Rattle.std.proofs.Common.{◌≡◌, ◌∙◌, ℕ, zero, suc, List, [], ◌∷◌, ◌++◌, Bool, true, false, not, ◌&&◌, cond, Option, Some, None, refl, sym, ap, subst}
use Rattle.std.specs.List.{list_all}
use Rattle.std.specs.Option.{option_map}
use Rattle.wcv_core.specs.CoreForm.{Group}
use Rattle.wcv_core.specs.Names.{Name}
use Rattle.wcv_types.specs.Seen.{seen}
use Rattle.wcv_types.specs.Tree.{Sort, is_func, is_value, sort}
use Rattle.wcv_types.specs.Unfold.{Type_tree}
use Rattle.wcv_matching.specs.Matching.{Item_rule, Reading, outside, MatchBelow, MatchAs}
use Rattle.wcv_matching.specs.ModuleItems.{ItemsMatch}
use Rattle.wcv_lower.specs.Canons.{func_at}
use Rattle.wcv_lower.specs.Checks.{is_none}
use Rattle.wcv_lower.specs.Context.{in_values, in_funcs}
use Rattle.wcv_lower.specs.Marks.{value_at, uses_each}
use Rattle.wcv_lower.specs.Readers.{Reader}
use Rattle.wcv_lower.specs.Start.{result_joins, start_joins, start_step}
use Rattle.wcv_lower.specs.Step.{Step, appends, marks_value, uses_value, names_start, change, apply}
use Rattle.wcv_lower.specs.Trees.{Tree_stack, tree_reader}
use Rattle.wcv_lower.proofs.MarkLaws.{apply-append}
use Rattle.wcv_growth.proofs.Known.{mapped-some, all-get}
use Rattle.wcv_world.specs.Growth.{Tokens}
use Rattle.wcv_world.specs.Reading.{Value_stack, value_reader}
use Rattle.wcv_world.specs.Values.{Value, typed, type_over}
use Rattle.wcv_safety.specs.Agreeing.{Agrees, AgreesAs, AgreeStacks, AgreeReadings}
use Rattle.wcv_safety.specs.Fitting.{Fits}
use Rattle.wcv_safety.specs.Standing.{BothStand}
use Rattle.wcv_safety.proofs.Agreeing.{AllUnseen, appends-agree, both-unseen, quiet-follows}
use Rattle.wcv_safety.proofs.Lists.{zip-get}
use Rattle.wcv_safety.proofs.Matched.{matched-sort}
use Rattle.wcv_safety.proofs.Quiet.{AllQuiet, quiet-both}
use Rattle.wcv_safety.proofs.Results.{BothSeen, alike-sort, result-seen}
use Rattle.wcv_safety.proofs.Tests.{if-some}

module _ (C : Item_rule) {A : Type 0} where
  pub seen-below : (d : ℕ) (f g : Reading A) (a b : Type_tree) → sort b ≡ is_func → MatchBelow C d A f g a b → seen (outside f) a ≡ seen (outside g) b
  seen-below zero f g a b e m = absurd m
  seen-below (suc d) f g a b e m = subst (λ (k : Sort). MatchAs C (MatchBelow C d) k A f g a b) (m.0 ∙ e) m.1

module _ (gs : List Group) (g : Name → Name) where
  -- values that are seen alike agree
  value-agrees : (a t : Type_tree) → sort t ≡ is_value → seen (outside (λ r. r)) a ≡ seen (outside g) t → Agrees gs g (typed a) t
  value-agrees a t k e =
      let s : sort a ≡ sort t = alike-sort (outside (λ r. r)) (outside g) a t e in
      subst (λ (l : Sort). AgreesAs l gs g a t) (sym k) (1, (s, subst (λ (l : Sort). MatchAs (ItemsMatch gs) (MatchBelow (ItemsMatch gs) zero) l Name (λ r. r) g a t) (sym (s ∙ k)) e))

start-unseen : (X : Reader) (ks : List ℕ) → AllUnseen {X = X} (uses_each ks ++ names_start ∷ [])
start-unseen X [] = (tt, tt)
start-unseen X (k ∷ ks) = (tt, start-unseen X ks)

start-quiet : (X : Reader) (ks : List ℕ) → AllQuiet {X = X} (uses_each ks ++ names_start ∷ [])
start-quiet X [] = (tt, tt)
start-quiet X (k ∷ ks) = (tt, start-quiet X ks)

result-quiet : (X : Reader) (o : Option X.Entry) → AllQuiet {X = X} (result_joins o)
result-quiet X None = tt
result-quiet X (Some x) = (tt, (tt, tt))

split : {X : Reader} (ks : List ℕ) (q : Step X) → uses_each ks ++ names_start ∷ q ≡ (uses_each ks ++ names_start ∷ []) ++ q
split [] q = refl
split {X} (k ∷ ks) q = ap (λ (p : Step X). uses_value k ∷ p) (split ks q)

module _ (g : Name → Name) (v : Value_stack) (s : Tree_stack) (h : BothStand v s) (a : AgreeReadings g v s) where
  values-there : (args : List ℕ) → list_all (λ k. not (is_none (value_at s.top k))) args ≡ true → list_all (λ k. not (is_none (value_at v.top k))) args ≡ true
  values-there [] e = refl
  values-there (k ∷ args) e = one (value_at s.top k) refl e (values-there args)
    where
      one : (o : Option Type_tree) → value_at s.top k ≡ o → (not (is_none o) && list_all (λ k. not (is_none (value_at s.top k))) args) ≡ true →
          (list_all (λ k. not (is_none (value_at s.top k))) args ≡ true → list_all (λ k. not (is_none (value_at v.top k))) args ≡ true) → (not (is_none (value_at v.top k)) && list_all (λ k. not (is_none (value_at v.top k))) args) ≡ true
      one None q e later = cc
      one (Some t) q e later =
          let z = zip-get (Agrees v.groups g) (v.top.space in_values) (s.top.space in_values) k t (a.stacks.all.0.space in_values) q in
          ap (λ (o : Option Value). not (is_none o) && list_all (λ k. not (is_none (value_at v.top k))) args) z.1 ∙ later e

  result-agrees : (v' : Value_stack) (s' : Tree_stack) (ts : Tokens) (p : Option Type_tree) (o : Option Type_tree) → AgreeStacks ts g v' s' → ((t : Type_tree) → o ≡ Some t → sort t ≡ is_value) → BothSeen (outside (λ r. r)) (outside g) p o →
      AgreeStacks ts g (apply (result_joins {X = value_reader} (option_map typed p)) v') (apply (result_joins {X = tree_reader} o) s')
  result-agrees v' s' ts None None b k w = b
  result-agrees v' s' ts None (Some t) b k w = absurd w
  result-agrees v' s' ts (Some x) None b k w = absurd w
  result-agrees v' s' ts (Some x) (Some t) b k w =
      both-unseen ts g (marks_value false ∷ []) (marks_value false ∷ []) (change (appends in_values (typed x)) v') (change (appends in_values t) s') (tt, tt) (tt, tt)
      (appends-agree ts g in_values v' s' (typed x) t b (value-agrees v'.groups g x t (k t refl) w))

  pub start-follows : (f : ℕ) (args : List ℕ) (y : Step tree_reader) → ((x t : Type_tree) → func_at s.top f ≡ Some x → tree_reader.result x ≡ Some t → sort t ≡ is_value) → start_step s.top f args ≡ Some y →
      (x : Step value_reader) × (start_step v.top f args ≡ Some x) × AgreeReadings g (apply x v) (apply y s)
  start-follows f args y r e =
      let m = if-some (list_all (λ k. not (is_none (value_at s.top k))) args) (option_map (start_joins {X = tree_reader} args) (func_at s.top f)) y e in
      let t = mapped-some (start_joins {X = tree_reader} args) (func_at s.top f) y m.1 in
      let z = zip-get (Agrees v.groups g) (v.top.space in_funcs) (s.top.space in_funcs) f t.0 (a.stacks.all.0.space in_funcs) t.1 in
      let k : sort t.0 ≡ is_func = all-get (λ (x : Type_tree). sort x ≡ is_func) (s.top.space in_funcs) f t.0 (h.types.sorted in_funcs) t.1 in
      let fit : Fits v.groups g (type_over z.0) t.0 = subst (λ (l : Sort). AgreesAs l v.groups g (type_over z.0) t.0) k z.2 in
      let l : sort (type_over z.0) ≡ is_func = matched-sort (ItemsMatch v.groups) {A = Name} (λ r. r) g (type_over z.0) t.0 fit ∙ k in
      let w = result-seen (λ r. r) g (type_over z.0) t.0 l k (seen-below (ItemsMatch v.groups) {A = Name} fit.0 (λ r. r) g (type_over z.0) t.0 k fit.1) in
      let p : Step value_reader = uses_each args ++ names_start ∷ [] in
      let q : Step tree_reader = uses_each args ++ names_start ∷ [] in
      let rv : Step value_reader = result_joins (value_reader.result z.0) in
      let rt : Step tree_reader = result_joins (tree_reader.result t.0) in
      let one : Step value_reader = start_joins args z.0 in
      let two : Step tree_reader = start_joins args t.0 in
      let b : AgreeStacks v.top.defined g (apply p v) (apply q s) = both-unseen v.top.defined g p q v s (start-unseen value_reader args) (start-unseen tree_reader args) a.stacks in
      let c : AgreeStacks v.top.defined g (apply rv (apply p v)) (apply rt (apply q s)) = result-agrees (apply p v) (apply q s) v.top.defined (tree_reader.result (type_over z.0)) (tree_reader.result t.0) b (λ u d. r t.0 u t.1 d) w in
      let both : AgreeReadings g (apply (p ++ rv) v) (apply (q ++ rt) s) =
      quiet-follows g v s (p ++ rv) (q ++ rt) a (quiet-both p rv (start-quiet value_reader args) (result-quiet value_reader (value_reader.result z.0))) (quiet-both q rt (start-quiet tree_reader args) (result-quiet tree_reader (tree_reader.result t.0)))
      (subst (λ (w : Value_stack). AgreeStacks v.top.defined g w (apply (q ++ rt) s)) (sym (apply-append p rv v))
      (subst (λ (w : Tree_stack). AgreeStacks v.top.defined g (apply rv (apply p v)) w) (sym (apply-append q rt s)) c)) in (
        one,
        ap (λ (b : Bool). cond b (option_map (start_joins {X = value_reader} args) (func_at v.top f)) None) (values-there args m.0) ∙ ap (option_map (start_joins {X = value_reader} args)) z.1,
        subst (λ (w : Step tree_reader). AgreeReadings g (apply one v) (apply w s)) t.2
            (subst (λ (w : Step value_reader). AgreeReadings g (apply w v) (apply two s)) (sym (split {X = value_reader} args rv))
            (subst (λ (w : Step tree_reader). AgreeReadings g (apply (p ++ rv) v) (apply w s)) (sym (split {X = tree_reader} args rt)) both)),
      )
