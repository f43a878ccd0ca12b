-- What passes as an entry passes again where more is named, and names nothing new.
use Rattle.std.proofs.Common.{◌≡◌, List, [], ◌∷◌, ◌++◌, refl, sym, ◌∙◌, ap, subst, Bool, true, false, ◌&&◌, ◌||◌, ◌⊎◌, inl, inr, ⊎_elim, Some, None}
use Rattle.std.specs.Prelude.{Option, not, All}
use Rattle.std.proofs.lemmas.Bool.{false≢true}
use Rattle.std.proofs.lemmas.List.Elements.{All-nil, All-cons, All-head, All-tail, All-weaker}
use Rattle.wcv_core.specs.Names.{Name}
use Rattle.wcv_core.proofs.Names.{and_left, and_right, same-true, same-refl}
use Rattle.wcv_types.specs.Identity.{Identity, of_node, of_reference, identity_at, same_identity}
use Rattle.wcv_types.specs.Named.{is_in, named_by_itself, is_named, are_named, with_identity, with_created, passes, all_pass, created_passes}
use Rattle.wcv_types.specs.Tree as tree
use Rattle.wcv_types.specs.Tree.{Former, named, record_of, variant_of, flags_of, enum_of, nothing, primitive, resource, defined, func, instance, type_entity, Tree, node, Parts, none, part, head, created}
use Rattle.wcv_types.specs.Unfold.{Type_tree}
use Rattle.wcv_lower.specs.Context.{Side, importing, exporting, names_for, joined, with_named}
use Rattle.wcv_lower.specs.Trees.{creates, is_known, named_after, is_export_alone, entry_passes, exports_pass}
use Rattle.wcv_spaces.specs.Naming.{IsSettled}

-- ## Booleans

true_or : (a b : Bool) → (a || b) ≡ true → (a ≡ true) ⊎ (b ≡ true)
true_or true b h = inl refl
true_or false b h = inr h

or_first : (a b : Bool) → a ≡ true → (a || b) ≡ true
or_first true b h = refl
or_first false b h = absurd (false≢true h)

or_second : (a b : Bool) → b ≡ true → (a || b) ≡ true
or_second true b h = refl
or_second false b h = h

both_so : (a b : Bool) → a ≡ true → b ≡ true → (a && b) ≡ true
both_so true b h k = k
both_so false b h k = absurd (false≢true h)

-- ## Identities

same_itself : (i : Identity) → same_identity i i ≡ true
same_itself (of_node a) = same-refl a
same_itself (of_reference r s) = both_so _ _ (same-refl r) (same-refl s)

same_one : (i j : Identity) → same_identity i j ≡ true → i ≡ j
same_one (of_node a) (of_node b) h = ap of_node (same-true a b h)
same_one (of_reference q a) (of_reference r b) h =
    let e : q ≡ r = same-true q r (and_left _ _ h) in
    let f : a ≡ b = same-true a b (and_right _ _ h) in
    λ j. of_reference (e j) (f j)
same_one (of_node a) (of_reference r b) h = absurd (false≢true h)
same_one (of_reference q a) (of_node b) h = absurd (false≢true h)

-- each that is in the first list is in the second
abbrev pub Within : List Identity → List Identity → Type 0
Within xs ys = (i : Identity) → is_in xs i ≡ true → is_in ys i ≡ true

-- ## More in a list

in_more : (xs : List Identity) (x : Identity) → Within xs (xs ++ x ∷ [])
in_more [] x i h = absurd (false≢true h)
in_more (y ∷ xs) x i h = ⊎_elim (λ k. or_first (same_identity i y) (is_in (xs ++ x ∷ []) i) k) (λ k. or_second (same_identity i y) (is_in (xs ++ x ∷ []) i) (in_more xs x i k)) (true_or (same_identity i y) (is_in xs i) h)

last_in : (xs : List Identity) (x : Identity) → is_in (xs ++ x ∷ []) x ≡ true
last_in [] x = or_first (same_identity x x) false (same_itself x)
last_in (y ∷ xs) x = or_second (same_identity x y) (is_in (xs ++ x ∷ []) x) (last_in xs x)

in_pushed : (xs : List Identity) (x i : Identity) → is_in (xs ++ x ∷ []) i ≡ true → (is_in xs i ≡ true) ⊎ (same_identity i x ≡ true)
in_pushed [] x i h = ⊎_elim (λ k. inr k) (λ k. absurd (false≢true k)) (true_or (same_identity i x) false h)
in_pushed (y ∷ xs) x i h =
    ⊎_elim (λ k. inl (or_first (same_identity i y) (is_in xs i) k)) (λ k. ⊎_elim (λ m. inl (or_second (same_identity i y) (is_in xs i) m)) (λ m. inr m) (in_pushed xs x i k)) (true_or (same_identity i y) (is_in (xs ++ x ∷ []) i) h)

joined_more : (b : Bool) (xs : List Identity) (x : Identity) → Within xs (joined b xs x)
joined_more true xs x = in_more xs x
joined_more false xs x = λ i h. h

-- with one more, if it is not there, it is there
joined_in : (xs : List Identity) (x : Identity) → is_in (joined (not (is_in xs x)) xs x) x ≡ true
joined_in xs x = go (is_in xs x) refl
  where
    go : (b : Bool) → is_in xs x ≡ b → is_in (joined (not b) xs x) x ≡ true
    go true e = e
    go false e = last_in xs x

joined_which : (b : Bool) (xs : List Identity) (x i : Identity) → is_in (joined b xs x) i ≡ true → (is_in xs i ≡ true) ⊎ (same_identity i x ≡ true)
joined_which true xs x i h = in_pushed xs x i h
joined_which false xs x i h = inl h

-- ## More that is named

abbrev with_those : Bool → List Identity → List Identity → List Identity
with_those b ids is = with_named same_identity b ids is

pub none_named : (ids is : List Identity) → with_named same_identity false ids is ≡ ids
none_named ids [] = refl
none_named ids (i ∷ is) = none_named ids is

pub named_append : (b : Bool) (ids xs ys : List Identity) → with_named same_identity b ids (xs ++ ys) ≡ with_named same_identity b (with_named same_identity b ids xs) ys
named_append b ids [] ys = refl
named_append b ids (x ∷ xs) ys = named_append b (joined (b && not (is_in ids x)) ids x) xs ys

pub named_more : (b : Bool) (ids is : List Identity) → Within ids (with_named same_identity b ids is)
named_more b ids [] i h = h
named_more b ids (x ∷ is) i h = named_more b (joined (b && not (is_in ids x)) ids x) is i (joined_more (b && not (is_in ids x)) ids x i h)

-- they are named
pub named_all : (ids is : List Identity) → All (λ i. is_in (with_named same_identity true ids is) i ≡ true) is
named_all ids [] = All-nil (λ i. is_in (with_those true ids []) i ≡ true)
named_all ids (x ∷ is) =
    let ids' : List Identity = joined (not (is_in ids x)) ids x in
    All-cons (λ i. is_in (with_those true ids (x ∷ is)) i ≡ true) x is (named_more true ids' is x (joined_in ids x)) (named_all ids' is)

-- all that are named already
pub named_before : (b : Bool) (ids is : List Identity) → All (λ i. is_in ids i ≡ true) is → with_named same_identity b ids is ≡ ids
named_before b ids [] h = refl
named_before b ids (x ∷ is) h =
    let e : joined (b && not (is_in ids x)) ids x ≡ ids = ap (λ (c : Bool). joined (b && not c) ids x) (All-head (λ i. is_in ids i ≡ true) x is h) ∙ go b in
    ap (λ (xs : List Identity). with_those b xs is) e ∙ named_before b ids is (All-tail (λ i. is_in ids i ≡ true) x is h)
  where
    go : (b : Bool) → joined (b && false) ids x ≡ ids
    go true = refl
    go false = refl

-- what is named is one of the first, or of those
named_which : (b : Bool) (ids is : List Identity) (i : Identity) → is_in (with_named same_identity b ids is) i ≡ true → (is_in ids i ≡ true) ⊎ (is_in is i ≡ true)
named_which b ids [] i h = inl h
named_which b ids (x ∷ is) i h =
    ⊎_elim (λ k. ⊎_elim (λ m. inl m) (λ m. inr (or_first (same_identity i x) (is_in is i) m)) (joined_which (b && not (is_in ids x)) ids x i k)) (λ k. inr (or_second (same_identity i x) (is_in is i) k))
    (named_which b (joined (b && not (is_in ids x)) ids x) is i h)

named_those : (ids is : List Identity) (i : Identity) → is_in is i ≡ true → is_in (with_named same_identity true ids is) i ≡ true
named_those ids [] i h = absurd (false≢true h)
named_those ids (x ∷ is) i h =
    let ids' : List Identity = joined (not (is_in ids x)) ids x in
    ⊎_elim (λ k. subst (λ (j : Identity). is_in (with_those true ids' is) j ≡ true) (sym (same_one i x k)) (named_more true ids' is x (joined_in ids x))) (λ k. named_those ids' is i k) (true_or (same_identity i x) (is_in is i) h)

named_within : (b : Bool) (xs ys is : List Identity) → Within xs ys → Within (with_named same_identity b xs is) (with_named same_identity b ys is)
named_within true xs ys is w i h = ⊎_elim (λ k. named_more true ys is i (w i k)) (λ k. named_those ys is i k) (named_which true xs is i h)
named_within false xs ys is w i h = subst (λ (l : List Identity). is_in l i ≡ true) (sym (none_named ys is)) (w i (subst (λ (l : List Identity). is_in l i ≡ true) (none_named xs is) h))

-- ## What sets name

itself_more : (k : Former) (a b c d : Bool) → (a ≡ true → b ≡ true) → (c ≡ true → d ≡ true) → named_by_itself k a c ≡ true → named_by_itself k b d ≡ true
itself_more (named p) a b c d f g h = refl
itself_more record_of a b c d f g h = f h
itself_more variant_of a b c d f g h = f h
itself_more (flags_of ls) a b c d f g h = f h
itself_more (enum_of ls) a b c d f g h = f h
itself_more k a b c d f g h = g h

mutual
  is_named_more : (xs ys : List Identity) (t : Tree Name Name) → Within xs ys → is_named xs t ≡ true → is_named ys t ≡ true
  is_named_more xs ys (node (resource r s) ps) w h = w (of_reference r s) h
  is_named_more xs ys (node (defined i k) ps) w h = itself_more k (is_in xs (of_node i)) (is_in ys (of_node i)) (are_named xs ps) (are_named ys ps) (w (of_node i)) (are_named_more xs ys ps w) h
  is_named_more xs ys (node x ps) w h = refl

  are_named_more : (xs ys : List Identity) (ps : Parts Name Name) → Within xs ys → are_named xs ps ≡ true → are_named ys ps ≡ true
  are_named_more xs ys none w h = refl
  are_named_more xs ys (part l t ps) w h = both_so (is_named ys t) (are_named ys ps) (is_named_more xs ys t w (and_left (is_named xs t) (are_named xs ps) h)) (are_named_more xs ys ps w (and_right (is_named xs t) (are_named xs ps) h))

with_identity_more : (xs ys : List Identity) (o : Option Identity) → Within xs ys → Within (with_identity o xs) (with_identity o ys)
with_identity_more xs ys None w = w
with_identity_more xs ys (Some j) w = λ i h. ⊎_elim (λ k. or_first (same_identity i j) (is_in ys i) k) (λ k. or_second (same_identity i j) (is_in ys i) (w i k)) (true_or (same_identity i j) (is_in xs i) h)

with_created_more : (xs ys : List Identity) (t : Tree Name Name) → Within xs ys → Within (with_created xs t) (with_created ys t)
with_created_more xs ys (node type_entity ps) w = with_identity_more xs ys (identity_at (head (created (node type_entity ps)))) w
with_created_more xs ys (node x ps) w = w

mutual
  passes_more : (xs ys : List Identity) (t : Tree Name Name) → Within xs ys → passes xs t ≡ true → passes ys t ≡ true
  passes_more xs ys (node type_entity ps) w h = created_passes_more xs ys ps w h
  passes_more xs ys (node (func i b) ps) w h = are_named_more xs ys ps w h
  passes_more xs ys (node (defined i k) ps) w h = are_named_more xs ys ps w h
  passes_more xs ys (node (instance i own) ps) w h = all_pass_more xs ys ps w h
  passes_more xs ys (node x ps) w h = refl

  all_pass_more : (xs ys : List Identity) (ps : Parts Name Name) → Within xs ys → all_pass xs ps ≡ true → all_pass ys ps ≡ true
  all_pass_more xs ys none w h = refl
  all_pass_more xs ys (part l t ps) w h =
      both_so (passes ys t) (all_pass (with_created ys t) ps) (passes_more xs ys t w (and_left (passes xs t) (all_pass (with_created xs t) ps) h))
      (all_pass_more (with_created xs t) (with_created ys t) ps (with_created_more xs ys t w) (and_right (passes xs t) (all_pass (with_created xs t) ps) h))

  created_passes_more : (xs ys : List Identity) (ps : Parts Name Name) → Within xs ys → created_passes xs ps ≡ true → created_passes ys ps ≡ true
  created_passes_more xs ys none w h = refl
  created_passes_more xs ys (part l t ps) w h = passes_more xs ys t w h

-- ## Entries

abbrev pub Named_sets : Type 0
Named_sets = Side → List Identity

-- what is new for exports is new for imports, where an import is looked at
abbrev ForBoth : Side → Named_sets → Named_sets → Type 0
ForBoth importing n m = (i : Identity) → is_in (m exporting) i ≡ true → (is_in (n exporting) i ≡ true) ⊎ (is_in (m importing) i ≡ true)
ForBoth exporting n m = Unit {0}

-- more is named, as entries of the side name it
pub record MoreNamed (s : Side) (n m : Named_sets) : Type 0 where
  pub within : (d : Side) → Within (n d) (m d)
  pub for_both : ForBoth s n m

-- what an entry of the side creates is named
abbrev pub with_all : Side → Named_sets → List Identity → Named_sets
with_all s n is = λ d. with_named same_identity (names_for s d) (n d) is

pub more_after : (s : Side) (n : Named_sets) (is : List Identity) → MoreNamed s n (with_all s n is)
more_after s n is = record { within = λ d. named_more (names_for s d) (n d) is; for_both = go s }
  where
    go : (s : Side) → ForBoth s n (with_all s n is)
    go importing = λ i h. ⊎_elim (λ k. inl k) (λ k. inr (named_those (n importing) is i k)) (named_which true (n exporting) is i h)
    go exporting = tt

more_both : (s : Side) (n m : Named_sets) (is : List Identity) → MoreNamed s n m → MoreNamed s (with_all s n is) (with_all s m is)
more_both s n m is w = record { within = λ d. named_within (names_for s d) (n d) (m d) is (w.within d); for_both = go s w.for_both }
  where
    go : (s : Side) → ForBoth s n m → ForBoth s (with_all s n is) (with_all s m is)
    go importing f = λ i h.
        ⊎_elim (λ k. ⊎_elim (λ l. inl (named_more true (n exporting) is i l)) (λ l. inr (named_more true (m importing) is i l)) (f i k)) (λ k. inr (named_those (m importing) is i k)) (named_which true (m exporting) is i h)
    go exporting f = tt

is_false : (b : Bool) → not b ≡ true → b ≡ false
is_false true h = absurd (false≢true h)
is_false false h = refl

not_false : (b : Bool) → b ≡ false → not b ≡ true
not_false true h = absurd (false≢true (sym h))
not_false false h = refl

known_more : (n m : Named_sets) (o : Option Identity) → MoreNamed importing n m → (is_known (n exporting) o && not (is_known (n importing) o)) ≡ false → (is_known (m exporting) o && not (is_known (m importing) o)) ≡ false
known_more n m None w h = refl
known_more n m (Some i) w h = go (is_in (m exporting) i) (is_in (m importing) i) refl refl
  where
    imported : is_in (n exporting) i ≡ true → is_in (n importing) i ≡ true
    imported e = by_first (is_in (n exporting) i) (is_in (n importing) i) e h
      where
        by_first : (a b : Bool) → a ≡ true → (a && not b) ≡ false → b ≡ true
        by_first true true e h = refl
        by_first true false e h = absurd (false≢true (sym h))
        by_first false b e h = absurd (false≢true e)

    go : (a b : Bool) → is_in (m exporting) i ≡ a → is_in (m importing) i ≡ b → (a && not b) ≡ false
    go false b e f = refl
    go true true e f = refl
    go true false e f = absurd (false≢true (sym f ∙ ⊎_elim (λ k. w.within importing i (imported k)) (λ k. k) (w.for_both i e)))

alone_more : (s : Side) (n m : Named_sets) (ps : Parts Name Name) → MoreNamed s n m → is_export_alone n s (node type_entity ps) ≡ false → is_export_alone m s (node type_entity ps) ≡ false
alone_more importing n m ps w h = known_more n m (identity_at (head (tree.referenced (node type_entity ps)))) w h
alone_more exporting n m ps w h = refl

mutual
  -- what passes passes where more is named
  pub entry_more : (s : Side) (n m : Named_sets) (t : Type_tree) → MoreNamed s n m → entry_passes n s t ≡ true → entry_passes m s t ≡ true
  entry_more s n m (node type_entity ps) w h =
      let t : Type_tree = node type_entity ps in
      both_so (passes (m s) (tree.referenced t)) (not (is_export_alone m s t)) (passes_more (n s) (m s) (tree.referenced t) (w.within s) (and_left (passes (n s) (tree.referenced t)) (not (is_export_alone n s t)) h))
      (not_false (is_export_alone m s t) (alone_more s n m ps w (is_false (is_export_alone n s t) (and_right (passes (n s) (tree.referenced t)) (not (is_export_alone n s t)) h))))
  entry_more s n m (node (instance i own) ps) w h = exports_more s n m ps w h
  entry_more s n m (node (defined i k) ps) w h = is_named_more (n s) (m s) (node (defined i k) ps) (w.within s) h
  entry_more s n m (node (func i b) ps) w h = are_named_more (n s) (m s) ps (w.within s) h
  entry_more s n m (node x ps) w h = refl

  exports_more : (s : Side) (n m : Named_sets) (ps : Parts Name Name) → MoreNamed s n m → exports_pass n s ps ≡ true → exports_pass m s ps ≡ true
  exports_more s n m none w h = refl
  exports_more s n m (part l t ps) w h =
      both_so (entry_passes m s t) (exports_pass (named_after m s t) s ps) (entry_more s n m t w (and_left (entry_passes n s t) (exports_pass (named_after n s t) s ps) h))
      (exports_more s (named_after n s t) (named_after m s t) ps (more_both s n m (creates t) w) (and_right (entry_passes n s t) (exports_pass (named_after n s t) s ps) h))

-- ## What is settled

-- what is settled is so where more is named
pub settled_more : (s : Side) (n m : Named_sets) (t : Type_tree) → MoreNamed s n m → IsSettled n s t → IsSettled m s t
settled_more s n m t w h = record {
  passes = entry_more s n m t w h.passes;
  named = λ d e. All-weaker (λ i. is_in (n d) i ≡ true) (λ i. is_in (m d) i ≡ true) (λ i k. w.within d i k) (creates t) (h.named d e);
}

-- so is what passed, once what it creates is named
pub settled_now : (s : Side) (n m : Named_sets) (t : Type_tree) → entry_passes n s t ≡ true → ((d : Side) → m d ≡ with_named same_identity (names_for s d) (n d) (creates t)) → IsSettled m s t
settled_now s n m t h e =
    let is : m ≡ with_all s n (creates t) = λ j d. e d j in
    subst (λ (l : Named_sets). IsSettled l s t) (sym is) (record {
      passes = entry_more s n (with_all s n (creates t)) t (more_after s n (creates t)) h;
      named = λ d k. subst (λ (b : Bool). All (λ i. is_in (with_named same_identity b (n d) (creates t)) i ≡ true) (creates t)) (sym k) (named_all (n d) (creates t));
    })

-- and it names nothing new
pub settled_same : (s : Side) (n : Named_sets) (t : Type_tree) (d : Side) → IsSettled n s t → n d ≡ with_named same_identity (names_for s d) (n d) (creates t)
settled_same s n t d h = go (names_for s d) refl
  where
    go : (b : Bool) → names_for s d ≡ b → n d ≡ with_named same_identity b (n d) (creates t)
    go true e = sym (named_before true (n d) (creates t) (h.named d e))
    go false e = sym (none_named (n d) (creates t))
