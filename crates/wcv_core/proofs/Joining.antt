-- The causes of a written group, put together.
use Rattle.wcv_core.specs.Limits.{max_entries}
use Rattle.std.proofs.Common.{◌≡◌, ℕ, zero, suc, ◌+◌, ◌<◌, ◌≤◌, List, [], ◌∷◌, ◌++◌, length, Bool, true, false, cond, not, ◌==◌, ◌&&◌, Some, None, nat_lt, refl, sym, ◌∙◌, ap, arith, subst, inl, inr}
use Rattle.std.specs.List.{range_with_len}
use Rattle.std.specs.Option.{unwrap_or}
use Rattle.std.specs.Str.{bytes_eq}
use Rattle.wcv_core.specs.Checks.{Checks, IsFree, CausedBy, MemoryOrCausedBy, all_checks, too_many}
use Rattle.wcv_core.specs.CoreCode.{code_of}
use Rattle.wcv_core.specs.CoreFeatures.{group_needs}
use Rattle.wcv_core.specs.CoreForm.{SubForm, Group}
use Rattle.wcv_core.specs.CoreGroups.{total, id_from, id_of}
use Rattle.wcv_core.specs.CoreJoining.{group_ids, order_checks, rule_checks, written_checks, table_checks, grown, is_free, then_checks, group_checks}
use Rattle.wcv_core.specs.CoreRules.{type_checks}
use Rattle.wcv_core.specs.CoreTable.{joined_to, with_group, passes, limit_checks}
use Rattle.wcv_core.specs.CoreWritten.{Core_entry, index_checks, closed_sub, closed_group}
use Rattle.wcv_core.specs.declared.error.Error.{Error}
use Rattle.wcv_core.specs.declared.error.ErrorKind.TheVariants as kind
use Rattle.wcv_core.specs.declared.features.WasmFeatures.{WasmFeatures}
use Rattle.wcv_core.proofs.Causes.{free_both}
use Rattle.wcv_core.proofs.Finding.{same_group-true}
use Rattle.wcv_core.proofs.Ordered.{order-closed}
use Rattle.wcv_core.proofs.Rowing.{length-map}
use Rattle.wcv_core.proofs.Closing.{caused_left, caused_right}

-- ## What is seen in the group alone

module _ (fs : WasmFeatures) (n : ℕ) (es : List Core_entry) (w : Group) where
  abbrev needed : Checks
  needed = group_needs fs w

  abbrev indices : ℕ → Checks
  indices len = all_checks (index_checks n es len) w

  abbrev order : Checks
  order = order_checks (length es) w

  pub needs_caused : {M : Type 0} (offset : ℕ) (e : Error M) → CausedBy (group_needs fs w) offset e → CausedBy (written_checks fs n es w) offset e
  needs_caused offset e c = caused_left needed (indices (length w) ++ order) offset e c

  pub index_caused : {M : Type 0} (len offset : ℕ) (e : Error M) → len ≡ length w → CausedBy (all_checks (index_checks n es len) w) offset e → CausedBy (written_checks fs n es w) offset e
  index_caused len offset e l c =
      caused_right needed (indices (length w) ++ order) offset e (caused_left (indices (length w)) order offset e (subst (λ (m : ℕ). CausedBy (all_checks (index_checks n es m) w) offset e) l c))

  -- where the indices are right, the order can be asked of the closed form
  order_is : (len : ℕ) (g : Group) → g ≡ closed_group es w → IsFree (all_checks (index_checks n es len) w) → order_checks 0 g ≡ order
  order_is len g k b = ap (order_checks 0) k ∙ order-closed n len es 0 (length es) w (omega arith) b

  pub order_caused : {M : Type 0} (len : ℕ) (g : Group) (offset : ℕ) (e : Error M) → g ≡ closed_group es w → IsFree (all_checks (index_checks n es len) w) → CausedBy (order_checks 0 g) offset e → CausedBy (written_checks fs n es w) offset e
  order_caused len g offset e k b c =
      caused_right needed (indices (length w) ++ order) offset e (caused_right (indices (length w)) order offset e (subst (λ (cs : Checks). CausedBy cs offset e) (order_is len g k b) c))

  pub written_free : (len : ℕ) (g : Group) → len ≡ length w → g ≡ closed_group es w → IsFree (group_needs fs w) → IsFree (all_checks (index_checks n es len) w) → IsFree (order_checks 0 g) → IsFree (written_checks fs n es w)
  written_free len g l k a b c =
      free_both needed (indices (length w) ++ order) a
      (free_both (indices (length w)) order (subst (λ (m : ℕ). IsFree (all_checks (index_checks n es m) w)) l b) (subst IsFree (order_is len g k b) c))

-- ## One list of checks after another

is_free_true : (cs : Checks) → IsFree cs → is_free cs ≡ true
is_free_true [] f = refl
is_free_true (c ∷ cs) f = λ j. not (f.0 j) && is_free_true cs f.1 j

pub then_free : (cs ds : Checks) → IsFree cs → IsFree ds → IsFree (then_checks cs ds)
then_free cs ds f g = free_both cs (cond (is_free cs) ds []) f (subst (λ (b : Bool). IsFree (cond b ds [])) (sym (is_free_true cs f)) g)

pub then_first : {M : Type 0} (cs ds : Checks) (offset : ℕ) (e : Error M) → CausedBy cs offset e → MemoryOrCausedBy (then_checks cs ds) offset e
then_first cs ds offset e c = inr (caused_left cs (cond (is_free cs) ds []) offset e c)

pub then_second : {M : Type 0} (cs ds : Checks) (offset : ℕ) (e : Error M) → IsFree cs → MemoryOrCausedBy ds offset e → MemoryOrCausedBy (then_checks cs ds) offset e
then_second cs ds offset e f (inl m) = inl m
then_second cs ds offset e f (inr c) = inr (caused_right cs (cond (is_free cs) ds []) offset e (subst (λ (b : Bool). CausedBy (cond b ds []) offset e) (sym (is_free_true cs f)) c))

-- ## A group with a type

pub some_grown : (gs : List Group) (g : Group) → 0 < length g → grown gs g ≡ with_group gs g
some_grown gs [] h = Prim.absurd (omega arith)
some_grown gs (s ∷ g) h = refl

pub some_checks : (gs : List Group) (g : Group) → 0 < length g → rule_checks gs g ≡ table_checks gs g
some_checks gs [] h = Prim.absurd (omega arith)
some_checks gs (s ∷ g) h = refl

-- ## A group that the table has not

limit_new : (gs : List Group) (g : Group) (n : ℕ) → id_of gs g ≡ None → n ≡ length g → too_many max_entries (total gs + n) ≡ limit_checks gs g
limit_new gs g n a l = (λ j. (kind.Limit, nat_lt max_entries (total gs + l j)) ∷ []) ∙ sym (λ j. (kind.Limit, passes (a j) gs g) ∷ [])

rules_new : (gs hs : List Group) (g : Group) (i n : ℕ) → id_of gs g ≡ None → hs ≡ gs ++ g ∷ [] → i ≡ total gs → n ≡ length g
    → all_checks (type_checks hs) (range_with_len i n) ≡ all_checks (type_checks (with_group gs g)) (group_ids gs g)
rules_new gs hs g i n a h f l =
    (λ j. all_checks (type_checks (h j)) (range_with_len (f j) (l j))) ∙ sym (λ j. all_checks (type_checks (joined_to (a j) gs g)) (range_with_len (unwrap_or (a j) (total gs)) (length g)))

pub limit_free : (gs : List Group) (g : Group) (n : ℕ) → id_of gs g ≡ None → n ≡ length g → IsFree (too_many max_entries (total gs + n)) → IsFree (limit_checks gs g)
limit_free gs g n a l f = subst IsFree (limit_new gs g n a l) f

pub rules_free : (gs hs : List Group) (g : Group) (i n : ℕ) → id_of gs g ≡ None → hs ≡ gs ++ g ∷ [] → i ≡ total gs → n ≡ length g
    → IsFree (too_many max_entries (total gs + n)) → IsFree (all_checks (type_checks hs) (range_with_len i n)) → IsFree (rule_checks gs g)
rules_free gs hs g i n a h f l r c =
    free_both (limit_checks gs g) (all_checks (type_checks (with_group gs g)) (group_ids gs g)) (limit_free gs g n a l r) (subst IsFree (rules_new gs hs g i n a h f l) c)

pub room_caused : {M : Type 0} (gs : List Group) (g : Group) (n offset : ℕ) (e : Error M) → id_of gs g ≡ None → n ≡ length g → CausedBy (too_many max_entries (total gs + n)) offset e → MemoryOrCausedBy (rule_checks gs g) offset e
room_caused gs g n offset e a l c =
    inr (caused_left (limit_checks gs g) (all_checks (type_checks (with_group gs g)) (group_ids gs g)) offset e (subst (λ (cs : Checks). CausedBy cs offset e) (limit_new gs g n a l) c))

pub rules_caused : {M : Type 0} (gs hs : List Group) (g : Group) (i n offset : ℕ) (e : Error M) → id_of gs g ≡ None → hs ≡ gs ++ g ∷ [] → i ≡ total gs → n ≡ length g
    → CausedBy (all_checks (type_checks hs) (range_with_len i n)) offset e → MemoryOrCausedBy (rule_checks gs g) offset e
rules_caused gs hs g i n offset e a h f l c =
    inr (caused_right (limit_checks gs g) (all_checks (type_checks (with_group gs g)) (group_ids gs g)) offset e (subst (λ (cs : Checks). CausedBy cs offset e) (rules_new gs hs g i n a h f l) c))

-- ## A group that the table has

found_room : (n : ℕ) (gs : List Group) (g : Group) (i : ℕ) → id_from n gs (code_of g) ≡ Some i → i + length g ≤ n + total gs
found_room n [] g i e = cc
found_room n (h ∷ gs) g i e = go (bytes_eq (code_of g) (code_of h)) refl e (found_room (n + length h) gs g i)
  where
    go : (b : Bool) → bytes_eq (code_of g) (code_of h) ≡ b → cond b (Some n) (id_from (n + length h) gs (code_of g)) ≡ Some i
        → (id_from (n + length h) gs (code_of g) ≡ Some i → i + length g ≤ n + length h + total gs) → i + length g ≤ n + (length h + total gs)
    go true x e r =
        let q : n ≡ i = cc in
        let l : length g ≡ length h = ap (length {A = SubForm}) (same_group-true g h x) in
        omega arith
    go false x e r = omega (arith, r e)

-- the types of a group that is there stand in the table
pub old_room : (gs : List Group) (g : Group) (i : ℕ) → id_of gs g ≡ Some i → i + length g ≤ total gs
old_room gs g i e = omega (arith, found_room 0 gs g i e)

-- ## All of it

not_zero : (n : ℕ) → (n == 0) ≡ false → 0 < n
not_zero zero e = cc
not_zero (suc n) e = omega arith

-- a closed form with a type is that of a group with a type
pub some_types : (es : List Core_entry) (w g : Group) (n : ℕ) → g ≡ closed_group es w → n ≡ length g → (n == 0) ≡ false → 0 < length w
some_types es w g n e l z =
    let a : 0 < n = not_zero n z in
    let b : length g ≡ length (closed_group es w) = ap (length {A = SubForm}) e in
    omega (arith, length-map (closed_sub es) w)

pub all_free : (fs : WasmFeatures) (gs : List Group) (es : List Core_entry) (w g : Group) (n : ℕ) → n ≡ total gs → g ≡ closed_group es w → IsFree (written_checks fs n es w) → IsFree (table_checks gs g) → IsFree (group_checks fs gs es w)
all_free fs gs es w g n l e a b =
    then_free (written_checks fs (total gs) es w) (table_checks gs (closed_group es w)) (subst (λ (m : ℕ). IsFree (written_checks fs m es w)) l a) (subst (λ (h : Group). IsFree (table_checks gs h)) e b)

pub alone_caused : {M : Type 0} (fs : WasmFeatures) (gs : List Group) (es : List Core_entry) (w : Group) (n offset : ℕ) (err : Error M) → n ≡ total gs → CausedBy (written_checks fs n es w) offset err → MemoryOrCausedBy (group_checks fs gs es w) offset err
alone_caused fs gs es w n offset err l c = then_first (written_checks fs (total gs) es w) (table_checks gs (closed_group es w)) offset err (subst (λ (m : ℕ). CausedBy (written_checks fs m es w) offset err) l c)

pub table_caused : {M : Type 0} (fs : WasmFeatures) (gs : List Group) (es : List Core_entry) (w g : Group) (n offset : ℕ) (err : Error M) → n ≡ total gs → g ≡ closed_group es w
    → IsFree (written_checks fs n es w) → MemoryOrCausedBy (table_checks gs g) offset err → MemoryOrCausedBy (group_checks fs gs es w) offset err
table_caused fs gs es w g n offset err l e a c =
    then_second (written_checks fs (total gs) es w) (table_checks gs (closed_group es w)) offset err (subst (λ (m : ℕ). IsFree (written_checks fs m es w)) l a) (subst (λ (h : Group). MemoryOrCausedBy (table_checks gs h) offset err) e c)
