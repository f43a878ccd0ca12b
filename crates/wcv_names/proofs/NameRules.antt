-- A broken rule of a part is a broken rule of the whole name.
use Rattle.std.proofs.Common.{◌≡◌, ℕ, Bool, true, false, not, cond, ◌||◌, ◌&&◌, ◌⊎◌, Option, Some, None, inl, inr, refl, sym, ap, ◌∙◌}
use Rattle.std.specs.Prelude.{is_none, is_some}
use Rattle.std.proofs.lemmas.Bool.{or_left, or_right}
use Rattle.wcv_core.specs.Features.{cm_implements, cm_accessors, has_feature}
use Rattle.wcv_core.specs.Refusal.{error_kind, error_offset}
use Rattle.wcv_core.specs.declared.error.Error.{Error}
use Rattle.wcv_core.specs.declared.error.ErrorKind.TheVariants as kind
use Rattle.wcv_core.specs.declared.features.WasmFeatures.{WasmFeatures}
use Rattle.wcv_syntax.specs.ExternName.{Form, is_accessor, access_of}
use Rattle.wcv_syntax.specs.FormOf.{form_of}
use Rattle.wcv_syntax.specs.NameFaults.{fault_in, name_fault}
use Rattle.wcv_types.specs.Tree.{Text, Extern_name}
use Rattle.wcv_names.specs.WholeNames.{on_text, bad_suffix, bad_interface, says_more, bad_implements, bad_version, is_bad_name, lacks_accessors, lacks_canon_names, lacks_implements, lacks_feature, NameRefused}

module _ {M : Type 0} (inst : Bool) (fs : WasmFeatures) (n : Extern_name) (offset : ℕ) (e : Error M) (at : error_offset e ≡ offset) where
  pub by_name : error_kind e ≡ kind.Name → is_bad_name inst n ≡ true → NameRefused inst fs n offset e
  by_name k h = inr (inl (k, h), at)

  pub by_feature : error_kind e ≡ kind.Feature → lacks_feature fs n ≡ true → NameRefused inst fs n offset e
  by_feature k h = inr (inr (k, h), at)

  pub by_no_form : error_kind e ≡ kind.Name → is_none (form_of n.name) ≡ true → NameRefused inst fs n offset e
  by_no_form k h = by_name k (or_left (is_none (form_of n.name)) (bad_suffix inst n || (bad_implements inst n || bad_version n)) h)

  pub by_suffix : error_kind e ≡ kind.Name → bad_suffix inst n ≡ true → NameRefused inst fs n offset e
  by_suffix k h = by_name k (or_right (is_none (form_of n.name)) (bad_suffix inst n || (bad_implements inst n || bad_version n)) (or_left (bad_suffix inst n) (bad_implements inst n || bad_version n) h))

  pub by_implements : error_kind e ≡ kind.Name → bad_implements inst n ≡ true → NameRefused inst fs n offset e
  by_implements k h = by_name k (or_right (is_none (form_of n.name)) (bad_suffix inst n || (bad_implements inst n || bad_version n)) (or_right (bad_suffix inst n) (bad_implements inst n || bad_version n) (or_left (bad_implements inst n) (bad_version n) h)))

  pub by_version : error_kind e ≡ kind.Name → bad_version n ≡ true → NameRefused inst fs n offset e
  by_version k h = by_name k (or_right (is_none (form_of n.name)) (bad_suffix inst n || (bad_implements inst n || bad_version n)) (or_right (bad_suffix inst n) (bad_implements inst n || bad_version n) (or_right (bad_implements inst n) (bad_version n) h)))

  pub by_accessors : error_kind e ≡ kind.Feature → lacks_accessors fs (form_of n.name) ≡ true → NameRefused inst fs n offset e
  by_accessors k h = by_feature k (or_left (lacks_accessors fs (form_of n.name)) (lacks_canon_names fs n || lacks_implements fs n) h)

  pub by_canon_names : error_kind e ≡ kind.Feature → lacks_canon_names fs n ≡ true → NameRefused inst fs n offset e
  by_canon_names k h = by_feature k (or_right (lacks_accessors fs (form_of n.name)) (lacks_canon_names fs n || lacks_implements fs n) (or_left (lacks_canon_names fs n) (lacks_implements fs n) h))

  pub by_feature_implements : error_kind e ≡ kind.Feature → lacks_implements fs n ≡ true → NameRefused inst fs n offset e
  by_feature_implements k h = by_feature k (or_right (lacks_accessors fs (form_of n.name)) (lacks_canon_names fs n || lacks_implements fs n) (or_right (lacks_canon_names fs n) (lacks_implements fs n) h))

-- what it says that it implements
module _ (inst : Bool) (fs : WasmFeatures) (n : Extern_name) (f : Form) (t : Text) (form : Some f ≡ form_of n.name) (says : n.implements ≡ Some t) where
  interface_is : bad_implements inst n ≡ bad_interface inst (Some f) t
  interface_is = (λ j. on_text (bad_interface inst (sym form j)) (says j))

  pub good_interface : bad_interface inst (Some f) t ≡ false → bad_implements inst n ≡ false
  good_interface h = interface_is ∙ h

  pub by_implemented : {M : Type 0} (offset : ℕ) (e : Error M) → error_kind e ≡ kind.Name → error_offset e ≡ offset → bad_interface inst (Some f) t ≡ true → NameRefused inst fs n offset e
  by_implemented offset e k at h = by_implements inst fs n offset e at k (interface_is ∙ h)

-- what needs the feature that is missing
module _ (inst : Bool) (fs : WasmFeatures) (n : Extern_name) (lacks : has_feature fs cm_implements ≡ false) where
  pub lacks_nothing : says_more n ≡ false → lacks_implements fs n ≡ false
  lacks_nothing h = ap (λ (b : Bool). b && not (has_feature fs cm_implements)) h

  pub says_nothing : says_more n ≡ false → bad_implements inst n ≡ false
  says_nothing h = go n.implements h
    where
      go : (o : Option Text) → (is_some o || is_some n.external_id) ≡ false → on_text (bad_interface inst (form_of n.name)) o ≡ false
      go None k = refl
      go (Some t) k = cc k

  pub by_more : {M : Type 0} (offset : ℕ) (e : Error M) → error_kind e ≡ kind.Feature → error_offset e ≡ offset → says_more n ≡ true → NameRefused inst fs n offset e
  by_more offset e k at h = by_feature_implements inst fs n offset e at k ((λ j. h j && not (lacks j)))

-- what the name alone is refused by
module _ {M : Type 0} (inst : Bool) (fs : WasmFeatures) (n : Extern_name) (offset : ℕ) (e : Error M) where
  pub by_checked : name_fault fs n.name ≡ Some (error_kind e) → error_offset e ≡ offset → NameRefused inst fs n offset e
  by_checked h at = go (form_of n.name) refl h
    where
      some : {X : Type 0} {x y : X} → Some x ≡ Some y → x ≡ y
      some k = cc k

      lack : (f : Form) (b : Bool) → (is_accessor (access_of f) && not (has_feature fs cm_accessors)) ≡ b → cond b (Some kind.Feature) None ≡ Some (error_kind e) → (error_kind e ≡ kind.Feature) × (b ≡ true)
      lack f true q k = (sym (some k), refl)
      lack f false q k = cc k

      go : (o : Option Form) → form_of n.name ≡ o → fault_in fs o ≡ Some (error_kind e) → NameRefused inst fs n offset e
      go None q k = by_no_form inst fs n offset e at (sym (some k)) (ap (λ (o : Option Form). is_none o) q)
      go (Some f) q k =
          let l = lack f (is_accessor (access_of f) && not (has_feature fs cm_accessors)) refl k in
          by_accessors inst fs n offset e at l.0 (ap (lacks_accessors fs) q ∙ l.1)

-- where the name alone is not refused
pub has_accessors_for : (fs : WasmFeatures) (t : Text) → name_fault fs t ≡ None → (is_none (form_of t) ≡ false) × (lacks_accessors fs (form_of t) ≡ false)
has_accessors_for fs t h = go (form_of t) h
  where
    lack : (b : Bool) → cond b (Some kind.Feature) None ≡ None → b ≡ false
    lack true k = cc k
    lack false k = refl

    go : (o : Option Form) → fault_in fs o ≡ None → (is_none o ≡ false) × (lacks_accessors fs o ≡ false)
    go None k = cc k
    go (Some f) k = (refl, lack (is_accessor (access_of f) && not (has_feature fs cm_accessors)) k)

or_none : (a b : Bool) → a ≡ false → b ≡ false → (a || b) ≡ false
or_none false b h k = k
or_none true b h k = cc h

pub no_bad_name : (inst : Bool) (fs : WasmFeatures) (n : Extern_name) → name_fault fs n.name ≡ None → bad_suffix inst n ≡ false → bad_implements inst n ≡ false → bad_version n ≡ false → is_bad_name inst n ≡ false
no_bad_name inst fs n h s i v =
    or_none (is_none (form_of n.name)) (bad_suffix inst n || (bad_implements inst n || bad_version n)) (has_accessors_for fs n.name h).0
    (or_none (bad_suffix inst n) (bad_implements inst n || bad_version n) s (or_none (bad_implements inst n) (bad_version n) i v))

pub no_lack : (fs : WasmFeatures) (n : Extern_name) → name_fault fs n.name ≡ None → lacks_canon_names fs n ≡ false → lacks_implements fs n ≡ false → lacks_feature fs n ≡ false
no_lack fs n h c i =
    or_none (lacks_accessors fs (form_of n.name)) (lacks_canon_names fs n || lacks_implements fs n) (has_accessors_for fs n.name h).1
    (or_none (lacks_canon_names fs n) (lacks_implements fs n) c i)

-- a version that is refused, or out of memory
pub by_version_or_memory : {M : Type 0} (inst : Bool) (fs : WasmFeatures) (n : Extern_name) (offset : ℕ) (e : Error M) → (error_kind e ≡ kind.OutOfMemory) ⊎ ((error_kind e ≡ kind.Name) × (error_offset e ≡ offset) × (bad_version n ≡ true)) → NameRefused inst fs n offset e
by_version_or_memory inst fs n offset e (inl k) = inl k
by_version_or_memory inst fs n offset e (inr h) = by_version inst fs n offset e h.1 h.0 h.2
