-- Start items: what they do and their causes under a map of entries, and what they do where there is no cause.
use Rattle.std.proofs.Common.{◌≡◌, ℕ, List, [], ◌∷◌, ◌++◌, map, length, refl, ◌∙◌, ap, Bool, true, false, cond, not, ◌&&◌, Some, None}
use Rattle.std.specs.Prelude.{Option, eqb, option_to_list}
use Rattle.std.specs.List.{list_all}
use Rattle.std.specs.Option.{option_map}
use Rattle.wcv_core.specs.Checks.{all_checks, lacks}
use Rattle.wcv_core.specs.CoreForm.{Group}
use Rattle.wcv_core.specs.declared.error.ErrorKind.TheVariants as error
use Rattle.wcv_core.specs.declared.features.WasmFeatures.{WasmFeatures}
use Rattle.wcv_types.specs.Tree.{is_value}
use Rattle.wcv_types.proofs.Each.{length-mapped}
use Rattle.wcv_lower.specs.Canons.{func_at}
use Rattle.wcv_lower.specs.Checks.{Checks, IsFree, if_found, is_none, missing, no_room}
use Rattle.wcv_lower.specs.Context.{Context, Stack, in_funcs, in_values, counts}
use Rattle.wcv_lower.specs.Mapped.{Map, Commutes, IsKnown, map_context, map_stack, map_step}
use Rattle.wcv_lower.specs.Marks.{value_at, uses_each, use_checks}
use Rattle.wcv_lower.specs.Readers.{Reader}
use Rattle.wcv_lower.specs.Start.{result_joins, start_joins, start_step, suits, all_suit, signature_checks, result_room, func_suits, start_checks}
use Rattle.wcv_lower.specs.Step.{Step, names_start}
use Rattle.wcv_core.specs.Features.{cm_values}
use Rattle.wcv_lower.proofs.Causes.{free_left}
use Rattle.wcv_lower.proofs.CoreInstanceLaws.{all_true, some_there}
use Rattle.wcv_lower.proofs.EndingLaws.{none-mapped}
use Rattle.wcv_lower.proofs.Mapping.{missing-mapped, get-mapped, counts-mapped}
use Rattle.wcv_lower.proofs.MarkLaws.{uses-mapped}
use Rattle.wcv_lower.proofs.ValueLaws.{mapped}

module _ {X Y : Reader} (m : Map X Y) {Known : X.Entry → Type 0} (law : Commutes m Known) where
  -- ## What it does

  value_at-mapped : (c : Context X) (k : ℕ) → value_at (map_context m c) k ≡ option_map m.entry (value_at c k)
  value_at-mapped c k = get-mapped m law (c.space in_values) k

  value_none-mapped : (c : Context X) (k : ℕ) → is_none (value_at (map_context m c) k) ≡ is_none (value_at c k)
  value_none-mapped c k = ap is_none (value_at-mapped c k) ∙ none-mapped m.entry (value_at c k)

  result_joins-mapped : (o : Option X.Entry) → result_joins (option_map m.entry o) ≡ map_step m (result_joins o)
  result_joins-mapped None = refl
  result_joins-mapped (Some x) = refl

  start_joins-mapped : (args : List ℕ) (x : X.Entry) → Known x → start_joins args (m.entry x) ≡ map_step m (start_joins args x)
  start_joins-mapped args x h =
      let joined : result_joins (Y.result (m.entry x)) ≡ map_step m (result_joins (X.result x)) = ap result_joins (law.result x h) ∙ result_joins-mapped (X.result x) in
      (λ j. uses_each args ++ names_start ∷ joined j) ∙ uses-mapped m args (names_start ∷ result_joins (X.result x))

  pub start_step-mapped : (c : Context X) → IsKnown Known c → (f : ℕ) (args : List ℕ) → start_step (map_context m c) f args ≡ option_map (map_step m) (start_step c f args)
  start_step-mapped c w f args =
      (λ j. cond (list_all (λ (k : ℕ). not (value_none-mapped c k j)) args) (option_map (start_joins args) (get-mapped m law (c.space in_funcs) f j)) None) ∙
      go (list_all (λ (k : ℕ). not (is_none (value_at c k))) args) (func_at c f) (w.space in_funcs f)
    where
      go : (b : Bool) (o : Option X.Entry) → ((x : X.Entry) → o ≡ Some x → Known x) → cond b (option_map (start_joins args) (option_map m.entry o)) None ≡ option_map (map_step m) (cond b (option_map (start_joins args) o) None)
      go false o h = refl
      go true None h = refl
      go true (Some x) h = ap Some (start_joins-mapped args x (h x refl))

  -- ## Why it is refused

  suits-mapped : (gs : List Group) (p : X.Entry) (o : Option X.Entry) → suits Y gs (m.entry p) (option_map m.entry o) ≡ suits X gs p o
  suits-mapped gs p None = refl
  suits-mapped gs p (Some v) = law.matches gs v p

  all_suit-mapped : (gs : List Group) (vs : List (Option X.Entry)) (ps : List X.Entry) → all_suit Y gs (map (option_map m.entry) vs) (map m.entry ps) ≡ all_suit X gs vs ps
  all_suit-mapped gs [] ps = refl
  all_suit-mapped gs (v ∷ vs) [] = refl
  all_suit-mapped gs (v ∷ vs) (p ∷ ps) = λ j. suits-mapped gs p v j && all_suit-mapped gs vs ps j

  values-mapped : (c : Context X) (args : List ℕ) → map (value_at (map_context m c)) args ≡ map (option_map m.entry) (map (value_at c) args)
  values-mapped c [] = refl
  values-mapped c (k ∷ args) = λ j. value_at-mapped c k j ∷ values-mapped c args j

  signature-mapped : (gs : List Group) (c : Context X) (args : List ℕ) (n : ℕ) (x : X.Entry) → Known x → signature_checks gs (map_context m c) args n (m.entry x) ≡ signature_checks gs c args n x
  signature-mapped gs c args n x h =
      let taken : length (Y.params (m.entry x)) ≡ length (X.params x) = ap length (law.params x h) ∙ length-mapped m.entry (X.params x) in
      let given : length (option_to_list (Y.result (m.entry x))) ≡ length (option_to_list (X.result x)) = ap (λ (o : Option Y.Entry). length (option_to_list o)) (law.result x h) ∙ go (X.result x) in
      let suited : all_suit Y gs (map (value_at (map_context m c)) args) (Y.params (m.entry x)) ≡ all_suit X gs (map (value_at c) args) (X.params x) =
      (λ j. all_suit Y gs (values-mapped c args j) (law.params x h j)) ∙ all_suit-mapped gs (map (value_at c) args) (X.params x) in
      λ j. (error.Signature, not (eqb (length args) (taken j))) ∷ (error.Signature, not (eqb n (given j))) ∷ (error.Signature, not (suited j)) ∷ []
    where
      go : (o : Option X.Entry) → length (option_to_list (option_map m.entry o)) ≡ length (option_to_list o)
      go None = refl
      go (Some y) = refl

  result_room-mapped : (c : Context X) (x : X.Entry) → Known x → result_room (map_context m c) (m.entry x) ≡ result_room c x
  result_room-mapped c x h = (λ j. if_found (λ (y : Y.Entry). no_room (counts-mapped m law c j) is_value) (law.result x h j)) ∙ go (X.result x)
    where
      go : (o : Option X.Entry) → if_found (λ (y : Y.Entry). no_room (counts c) is_value) (option_map m.entry o) ≡ if_found (λ (y : X.Entry). no_room (counts c) is_value) o
      go None = refl
      go (Some y) = refl

  func_suits-mapped : (gs : List Group) (c : Context X) (args : List ℕ) (n : ℕ) (o : Option X.Entry) → ((x : X.Entry) → o ≡ Some x → Known x) →
      if_found (func_suits gs (map_context m c) args n) (option_map m.entry o) ≡ if_found (func_suits gs c args n) o
  func_suits-mapped gs c args n None h = refl
  func_suits-mapped gs c args n (Some x) h = λ j. signature-mapped gs c args n x (h x refl) j ++ result_room-mapped c x (h x refl) j

  pub start_checks-mapped : (fs : WasmFeatures) (s : Stack X) → IsKnown Known s.top → (f : ℕ) (args : List ℕ) (n : ℕ) → start_checks fs (map_stack m s) f args n ≡ start_checks fs s f args n
  start_checks-mapped fs s w f args n =
      let at_func : func_at (map_context m s.top) f ≡ option_map m.entry (func_at s.top f) = get-mapped m law (s.top.space in_funcs) f in
      let looked : missing (func_at (map_context m s.top) f) ≡ missing (func_at s.top f) = ap missing at_func ∙ missing-mapped m.entry (func_at s.top f) in
      let found : if_found (func_suits s.groups (map_context m s.top) args n) (func_at (map_context m s.top) f) ≡ if_found (func_suits s.groups s.top args n) (func_at s.top f) =
      ap (if_found (func_suits s.groups (map_context m s.top) args n)) at_func ∙ func_suits-mapped s.groups s.top args n (func_at s.top f) (w.space in_funcs f) in
      λ j. lacks fs cm_values
      ++ ((error.StartTwice, s.top.started)
      ∷ (looked j ++ (all_checks (λ (k : ℕ). (error.OutOfBounds, value_none-mapped s.top k j) ∷ []) args ++ (use_checks s.top args ++ found j))))

-- ## Without a cause

pub start_does : (X : Reader) (fs : WasmFeatures) (s : Stack X) (f : ℕ) (args : List ℕ) (n : ℕ) → IsFree (start_checks fs s f args n) → (p : Step X) × (start_step s.top f args ≡ Some p)
start_does X fs s f args n h =
    let o : Option X.Entry = func_at s.top f in
    let each : Checks = all_checks (λ (k : ℕ). missing (value_at s.top k)) args in
    let rest : Checks = use_checks s.top args ++ if_found (func_suits s.groups s.top args n) o in
    let there : list_all (λ (k : ℕ). not (is_none (value_at s.top k))) args ≡ true = all_true
    (λ (k : ℕ). missing (value_at s.top k)) (λ (k : ℕ). not (is_none (value_at s.top k))) (λ k g. ap not g.0) args (free_left each rest h.1.1.1) in
    let w : (p : Step X) × (option_map (start_joins args) o ≡ Some p) = mapped (start_joins args) o (some_there o h.1.1.0) in
    (w.0, ap (λ (b : Bool). cond b (option_map (start_joins args) o) None) there ∙ w.1)
