-- The walk over the defined resources: those that are kept, and the causes.
use Rattle.std.proofs.Common.{◌≡◌, ℕ, ◌+◌, ◌≤◌, List, [], ◌∷◌, ◌++◌, map, drop, length, refl, sym, ◌∙◌, ap, subst, append-nil, append_assoc, Bool, true, false, ◌||◌, cond, eqb, Some, None, inl, ⊎_elim}
use Rattle.std.specs.Prelude.{Option, slice_get, All}
use Rattle.std.specs.List.{IsDistinct, AllByRecursion}
use Rattle.std.specs.Map.{keys_of}
use Rattle.std.specs.Option.{option_map, option_and_then}
use Rattle.std.proofs.lemmas.Bool.{false≢true}
use Rattle.std.proofs.lemmas.List.{map-append}
use Rattle.std.proofs.lemmas.List.Elements.{All-nil, All-cons, All-head, All-tail, All-push}
use Rattle.std.proofs.lemmas.Map.Keys.{IsDistinct-head, IsDistinct-tail}
use Rattle.wcv_core.specs.Names.{Name, number}
use Rattle.wcv_core.specs.Refusal.{error_kind}
use Rattle.wcv_core.specs.declared.core_types.ValType.{ValType}
use Rattle.wcv_core.specs.declared.error.Error.{Error}
use Rattle.wcv_core.specs.declared.error.ErrorKind.TheVariants as kind
use Rattle.wcv_core.proofs.Names.{same-true, same-equal}
use Rattle.wcv_types.specs.Arena.{Arena}
use Rattle.wcv_types.specs.ComponentTrees.{resource_path, ResourceStands}
use Rattle.wcv_types.specs.FirstPath.{first_path}
use Rattle.wcv_types.specs.Paths.{PathLeadsTo}
use Rattle.wcv_types.specs.Sets.{same_resource}
use Rattle.wcv_types.specs.declared.ids.ResourceId.{ResourceId}
use Rattle.wcv_types.proofs.FirstPath.{first_path-leads}
use Rattle.wcv_types.proofs.Lists.{some-inj}
use Rattle.wcv_lower.specs.Checks.{is_none}
use Rattle.wcv_lower.specs.Trees.{Entries, tree_reader}
use Rattle.wcv_lower.specs.Ending.{is_free_among, any_free, keep, kept}
use Rattle.wcv_spaces.specs.Contents.{defined_resource}
use Rattle.wcv_resources.specs.Ending.{with_kept}
use Rattle.wcv_spaces.specs.Looking.{has_resource}
use Rattle.wcv_spaces.specs.Promises.{MemoryOrCausedBy}
use Rattle.wcv_spaces.proofs.Calls.{caused_more}
use Rattle.wcv_spaces.proofs.Walks.{drop_found, drop_past}

-- ## One cause

pub scope_caused : {M : Type 0} (b c : Bool) (offset : ℕ) (e : Error M) → (b ≡ true → c ≡ true) → MemoryOrCausedBy ((kind.ResourceScope, b) ∷ []) offset e → MemoryOrCausedBy ((kind.ResourceScope, c) ∷ []) offset e
scope_caused b c offset e h w =
    caused_more ((kind.ResourceScope, b) ∷ []) ((kind.ResourceScope, c) ∷ []) offset e
    (λ q. ⊎_elim (λ (x : (error_kind e ≡ kind.ResourceScope) × (b ≡ true)). inl (x.0, h x.1)) (λ (x : ⊥). absurd x) q) w

abbrev pub Defined : Type 0
Defined = List (ResourceId × Option ValType)

abbrev pub Kept : Type 0
Kept = List (ResourceId × List ℕ)

-- ## In imports

-- none before is free
abbrev pub NoneBefore : Defined → Entries → ℕ → Type 0
NoneBefore ds es k = any_free tree_reader (map defined_resource (drop k ds)) es ≡ any_free tree_reader (map defined_resource ds) es

pub none_next : (ds : Defined) (es : Entries) (k : ℕ) (d : ResourceId × Option ValType) → slice_get ds k ≡ Some d → is_free_among tree_reader (number d.0.index) es ≡ false → NoneBefore ds es k → NoneBefore ds es (k + 1)
none_next ds es k d h f w =
    ap (λ (b : Bool). b || any_free tree_reader (map defined_resource (drop (k + 1) ds)) es) (sym f) ∙ ap (λ (xs : Defined). any_free tree_reader (map defined_resource xs) es) (sym (drop_found ds k d h)) ∙ w

pub one_free : (ds : Defined) (es : Entries) (k : ℕ) (d : ResourceId × Option ValType) → slice_get ds k ≡ Some d → is_free_among tree_reader (number d.0.index) es ≡ true → NoneBefore ds es k → any_free tree_reader (map defined_resource ds) es ≡ true
one_free ds es k d h f w =
    sym w ∙ ap (λ (xs : Defined). any_free tree_reader (map defined_resource xs) es) (drop_found ds k d h) ∙ ap (λ (b : Bool). b || any_free tree_reader (map defined_resource (drop (k + 1) ds)) es) f

pub none_free : (ds : Defined) (es : Entries) (k : ℕ) → length ds ≤ k → NoneBefore ds es k → any_free tree_reader (map defined_resource ds) es ≡ false
none_free ds es k e w = sym w ∙ ap (λ (xs : Defined). any_free tree_reader (map defined_resource xs) es) (drop_past ds k e)

-- ## In exports

abbrev after : Kept → List (Name × List ℕ) → List (Name × List ℕ)
after ps ks = map resource_path ps ++ ks

-- those that are left come behind those that were kept
abbrev pub KeptBefore : Defined → Entries → ℕ → Kept → Type 0
KeptBefore ds es k ps = option_map (λ ks. map resource_path ps ++ ks) (kept tree_reader (map defined_resource (drop k ds)) es) ≡ kept tree_reader (map defined_resource ds) es

pub kept_start : (ds : Defined) (es : Entries) → KeptBefore ds es 0 []
kept_start ds es = go (kept tree_reader (map defined_resource ds) es)
  where
    go : (o : Option (List (Name × List ℕ))) → option_map (λ ks. ks) o ≡ o
    go None = refl
    go (Some ks) = refl

-- one more, kept or not
one_kept : (r : ResourceId) (es : Entries) (b : Bool) (o : Option (List ℕ)) (ps qs : Kept) (left : Option (List (Name × List ℕ))) → with_kept b r o ps ≡ Some qs →
    option_map (after qs) left ≡ option_map (after ps) (option_and_then (λ ks. cond b (option_map (λ p. (number r.index, p) ∷ ks) o) (Some ks)) left)
one_kept r es true None ps qs left h = cc
one_kept r es true (Some p) ps qs None h = refl
one_kept r es true (Some p) ps qs (Some ks) h =
    ap (λ (xs : Kept). Some (map resource_path xs ++ ks)) (sym (some-inj h)) ∙
    ap (λ (xs : List (Name × List ℕ)). Some (xs ++ ks)) (map-append resource_path ps ((r, p) ∷ [])) ∙
    ap Some (append_assoc (map resource_path ps) ((number r.index, p) ∷ []) ks)
one_kept r es false o ps qs None h = refl
one_kept r es false o ps qs (Some ks) h = ap (λ (xs : Kept). Some (map resource_path xs ++ ks)) (sym (some-inj h))

-- of one that is free the path is the first
keep_same : (r : ResourceId) (es : Entries) (b : Bool) (o : Option (List ℕ)) (left : Option (List (Name × List ℕ))) → b ≡ is_free_among tree_reader (number r.index) es → (b ≡ true → o ≡ first_path (number r.index) es) →
    option_and_then (λ ks. cond b (option_map (λ p. (number r.index, p) ∷ ks) o) (Some ks)) left ≡ option_and_then (keep tree_reader (number r.index) es) left
keep_same r es true o left e f = λ j. option_and_then (λ ks. cond (e j) (option_map (λ p. (number r.index, p) ∷ ks) (f refl j)) (Some ks)) left
keep_same r es false o left e f = λ j. option_and_then (λ ks. cond (e j) (option_map (λ p. (number r.index, p) ∷ ks) (first_path (number r.index) es)) (Some ks)) left

pub kept_next : (ds : Defined) (es : Entries) (k : ℕ) (d : ResourceId × Option ValType) (b : Bool) (o : Option (List ℕ)) (ps qs : Kept) → slice_get ds k ≡ Some d → b ≡ is_free_among tree_reader (number d.0.index) es → (b ≡ true → o ≡ first_path (number d.0.index) es) →
    with_kept b d.0 o ps ≡ Some qs → KeptBefore ds es k ps → KeptBefore ds es (k + 1) qs
kept_next ds es k d b o ps qs h e f q w =
    let left = kept tree_reader (map defined_resource (drop (k + 1) ds)) es in
    one_kept d.0 es b o ps qs left q ∙ ap (option_map (after ps)) (keep_same d.0 es b o left e f ∙ ap (λ (xs : Defined). kept tree_reader (map defined_resource xs) es) (sym (drop_found ds k d h))) ∙ w

-- one that has no path
none_kept : (r : ResourceId) (b : Bool) (o : Option (List ℕ)) (ps : Kept) (left : Option (List (Name × List ℕ))) → is_none (with_kept b r o ps) ≡ true → option_and_then (λ ks. cond b (option_map (λ p. (number r.index, p) ∷ ks) o) (Some ks)) left ≡ None
none_kept r true None ps None h = refl
none_kept r true None ps (Some ks) h = refl
none_kept r true (Some p) ps left h = absurd (false≢true h)
none_kept r false o ps left h = absurd (false≢true h)

pub kept_none : (ds : Defined) (es : Entries) (k : ℕ) (d : ResourceId × Option ValType) (b : Bool) (o : Option (List ℕ)) (ps : Kept) → slice_get ds k ≡ Some d → b ≡ is_free_among tree_reader (number d.0.index) es → (b ≡ true → o ≡ first_path (number d.0.index) es) →
    is_none (with_kept b d.0 o ps) ≡ true → KeptBefore ds es k ps → is_none (kept tree_reader (map defined_resource ds) es) ≡ true
kept_none ds es k d b o ps h e f q w =
    let left = kept tree_reader (map defined_resource (drop (k + 1) ds)) es in
    let z : kept tree_reader (map defined_resource (drop k ds)) es ≡ None = ap (λ (xs : Defined). kept tree_reader (map defined_resource xs) es) (drop_found ds k d h) ∙ sym (keep_same d.0 es b o left e f) ∙ none_kept d.0 b o ps left q in
    ap is_none (sym w ∙ ap (option_map (after ps)) z)

pub kept_all : (ds : Defined) (es : Entries) (k : ℕ) (ps : Kept) → length ds ≤ k → KeptBefore ds es k ps → kept tree_reader (map defined_resource ds) es ≡ Some (map resource_path ps)
kept_all ds es k ps e w = sym w ∙ ap (λ (xs : Defined). option_map (after ps) (kept tree_reader (map defined_resource xs) es)) (drop_past ds k e) ∙ ap Some (append-nil (map resource_path ps))

-- ## Each stands, and none comes twice

abbrev pub AllOfArena : Arena → Kept → Type 0
AllOfArena a ps = All (λ (p : ResourceId × List ℕ). ResourceStands a p.0) ps

pub kept_stand : (a : Arena) (r : ResourceId) (b : Bool) (o : Option (List ℕ)) (ps qs : Kept) → with_kept b r o ps ≡ Some qs → ResourceStands a r → All (λ (p : ResourceId × List ℕ). ResourceStands a p.0) ps → All (λ (p : ResourceId × List ℕ). ResourceStands a p.0) qs
kept_stand a r true None ps qs h s w = cc
kept_stand a r true (Some p) ps qs h s w =
    subst (All (λ (p : ResourceId × List ℕ). ResourceStands a p.0)) (some-inj h) (All-push (λ (p : ResourceId × List ℕ). ResourceStands a p.0) ps (r, p) w s)
kept_stand a r false o ps qs h s w = subst (All (λ (p : ResourceId × List ℕ). ResourceStands a p.0)) (some-inj h) w

-- no resource of the second list is in the first
abbrev pub NotYet : Kept → Defined → Type 0
NotYet ps ds = All (λ (d : ResourceId × Option ValType). has_resource d.0 ps ≡ false) ds

none_yet : (ds : Defined) → NotYet [] ds
none_yet [] = All-nil (λ (d : ResourceId × Option ValType). has_resource {X = List ℕ} d.0 [] ≡ false)
none_yet (d ∷ ds) = All-cons (λ (d : ResourceId × Option ValType). has_resource {X = List ℕ} d.0 [] ≡ false) d ds refl (none_yet ds)

has_push : (q r : ResourceId) (p : List ℕ) (ps : Kept) → has_resource q ps ≡ false → eqb q.index r.index ≡ false → has_resource q (ps ++ (r, p) ∷ []) ≡ false
has_push q r p [] h e = λ j. e j || false
has_push q r p (x ∷ ps) h e = go (eqb q.index x.0.index) h (λ w. has_push q r p ps w e)
  where
    go : (b : Bool) → (b || has_resource q ps) ≡ false → (has_resource q ps ≡ false → has_resource q (ps ++ (r, p) ∷ []) ≡ false) → (b || has_resource q (ps ++ (r, p) ∷ [])) ≡ false
    go true w later = absurd (false≢true (sym w))
    go false w later = later w

turned : (m n : ℕ) → eqb m n ≡ false → eqb n m ≡ false
turned m n h = go (eqb n m) refl
  where
    go : (b : Bool) → eqb n m ≡ b → eqb n m ≡ false
    go false e = e
    go true e = absurd (false≢true (sym h ∙ same-equal (number m) (number n) (sym (same-true (number n) (number m) e))))

not_pushed : (r : ResourceId) (p : List ℕ) (ps : Kept) (ds : Defined) → AllByRecursion (λ q. same_resource r q ≡ false) (keys_of ds) → NotYet ps ds → NotYet (ps ++ (r, p) ∷ []) ds
not_pushed r p ps [] u w = All-nil (λ (d : ResourceId × Option ValType). has_resource d.0 (ps ++ (r, p) ∷ []) ≡ false)
not_pushed r p ps (d ∷ ds) u w =
    All-cons (λ (d : ResourceId × Option ValType). has_resource d.0 (ps ++ (r, p) ∷ []) ≡ false) d ds
    (has_push d.0 r p ps (All-head (λ (d : ResourceId × Option ValType). has_resource d.0 ps ≡ false) d ds w) (turned r.index d.0.index u.0))
    (not_pushed r p ps ds u.1 (All-tail (λ (d : ResourceId × Option ValType). has_resource d.0 ps ≡ false) d ds w))

-- what is left to be looked at, of which none was kept yet
pub record Left (ds : Defined) (k : ℕ) (ps : Kept) : Type 0 where
  pub new : NotYet ps (drop k ds)
  pub apart : IsDistinct same_resource (keys_of (drop k ds))

pub left_start : (ds : Defined) → IsDistinct same_resource (keys_of ds) → Left ds 0 []
left_start ds h = record { new = none_yet ds; apart = h }

pub left_here : (ds : Defined) (k : ℕ) (d : ResourceId × Option ValType) (ps : Kept) → slice_get ds k ≡ Some d → Left ds k ps → has_resource d.0 ps ≡ false
left_here ds k d ps h w = All-head (λ (d : ResourceId × Option ValType). has_resource d.0 ps ≡ false) d (drop (k + 1) ds) (subst (NotYet ps) (drop_found ds k d h) w.new)

pub left_next : (ds : Defined) (k : ℕ) (d : ResourceId × Option ValType) (b : Bool) (o : Option (List ℕ)) (ps qs : Kept) → slice_get ds k ≡ Some d → with_kept b d.0 o ps ≡ Some qs → Left ds k ps → Left ds (k + 1) qs
left_next ds k d b o ps qs h q w =
    let u : IsDistinct same_resource (d.0 ∷ keys_of (drop (k + 1) ds)) = subst (λ (xs : Defined). IsDistinct same_resource (keys_of xs)) (drop_found ds k d h) w.apart in
    let n : NotYet ps (drop (k + 1) ds) = All-tail (λ (d : ResourceId × Option ValType). has_resource d.0 ps ≡ false) d (drop (k + 1) ds) (subst (NotYet ps) (drop_found ds k d h) w.new) in
    record {
      new = go b o q n (not_pushed d.0 (path_or o) ps (drop (k + 1) ds) (IsDistinct-head same_resource d.0 (keys_of (drop (k + 1) ds)) u) n);
      apart = IsDistinct-tail same_resource d.0 (keys_of (drop (k + 1) ds)) u;
    }
  where
    path_or : Option (List ℕ) → List ℕ
    path_or None = []
    path_or (Some p) = p

    go : (b : Bool) (o : Option (List ℕ)) → with_kept b d.0 o ps ≡ Some qs → NotYet ps (drop (k + 1) ds) → NotYet (ps ++ (d.0, path_or o) ∷ []) (drop (k + 1) ds) → NotYet qs (drop (k + 1) ds)
    go true None e x y = cc
    go true (Some p) e x y = subst (λ (xs : Kept). NotYet xs (drop (k + 1) ds)) (some-inj e) y
    go false o e x y = subst (λ (xs : Kept). NotYet xs (drop (k + 1) ds)) (some-inj e) x

-- ## The paths lead

abbrev LeadsIn : Entries → Name × List ℕ → Type 0
LeadsIn es k = PathLeadsTo k.1 k.0 es

keep_leads : (r : Name) (es : Entries) (ks ls : List (Name × List ℕ)) (b : Bool) (o : Option (List ℕ)) → first_path r es ≡ o → cond b (option_map (λ p. (r, p) ∷ ks) o) (Some ks) ≡ Some ls → All (LeadsIn es) ks → All (LeadsIn es) ls
keep_leads r es ks ls true None f h w = cc
keep_leads r es ks ls true (Some p) f h w = subst (All (LeadsIn es)) (some-inj h) (All-cons (LeadsIn es) (r, p) ks (first_path-leads r es p f) w)
keep_leads r es ks ls false o f h w = subst (All (LeadsIn es)) (some-inj h) w

kept_lead : (ds : List (Name × Option ValType)) (es : Entries) (ls : List (Name × List ℕ)) → kept tree_reader ds es ≡ Some ls → All (LeadsIn es) ls
kept_lead [] es ls h = subst (All (LeadsIn es)) (some-inj h) (All-nil (LeadsIn es))
kept_lead (d ∷ ds) es ls h = go (kept tree_reader ds es) (λ ks w. kept_lead ds es ks w) h
  where
    go : (o : Option (List (Name × List ℕ))) → ((ks : List (Name × List ℕ)) → o ≡ Some ks → All (LeadsIn es) ks) → option_and_then (keep tree_reader d.0 es) o ≡ Some ls → All (LeadsIn es) ls
    go None all w = cc
    go (Some ks) all w = keep_leads d.0 es ks ls (is_free_among tree_reader d.0 es) (first_path d.0 es) refl w (all ks refl)

mapped : (es : Entries) (ps : Kept) → All (LeadsIn es) (map resource_path ps) → All (λ (p : ResourceId × List ℕ). PathLeadsTo p.1 (number p.0.index) es) ps
mapped es [] w = All-nil (λ (p : ResourceId × List ℕ). PathLeadsTo p.1 (number p.0.index) es)
mapped es (p ∷ ps) w =
    All-cons (λ (p : ResourceId × List ℕ). PathLeadsTo p.1 (number p.0.index) es) p ps (All-head (LeadsIn es) (resource_path p) (map resource_path ps) w)
    (mapped es ps (All-tail (LeadsIn es) (resource_path p) (map resource_path ps) w))

pub paths_lead : (ds : List (Name × Option ValType)) (es : Entries) (ps : Kept) → kept tree_reader ds es ≡ Some (map resource_path ps) → All (λ (p : ResourceId × List ℕ). PathLeadsTo p.1 (number p.0.index) es) ps
paths_lead ds es ps h = mapped es ps (kept_lead ds es (map resource_path ps) h)
