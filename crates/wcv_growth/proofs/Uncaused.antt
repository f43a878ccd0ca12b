-- Where an item has no cause, its checks and those of its declarations have none.
use Rattle.std.proofs.Common.{◌≡◌, ℕ, suc, ◌++◌, true, subst, Option, Some}
use Rattle.wcv_core.specs.Names.{Place, deeper}
use Rattle.wcv_core.specs.declared.features.WasmFeatures.{WasmFeatures}
use Rattle.wcv_core.proofs.Causes.{free_left, free_right}
use Rattle.wcv_syntax.specs.Model.{Form, type_item, Type_form, Decl, Decls, no_decls, declare}
use Rattle.wcv_types.proofs.Lists.{some-inj}
use Rattle.wcv_lower.specs.Checks.{Checks, IsFree, no_type_room}
use Rattle.wcv_lower.specs.Context.{Kind, counts}
use Rattle.wcv_lower.specs.Declared.{Makers, inside, full_stack, read_decl, read_decls, on_read, declared_checks, declared_left, decl_checks, decls_checks}
use Rattle.wcv_lower.specs.Ending.{declared_end_checks}
use Rattle.wcv_lower.specs.Growth.{call_checks, left_checks}
use Rattle.wcv_lower.specs.Items.{item_causes}
use Rattle.wcv_lower.specs.Names.{Names}
use Rattle.wcv_lower.specs.Trees.{Tree_stack, tree_reader, tree_maker}
use Rattle.wcv_growth.proofs.Known.{then-some}

module _ (fs : WasmFeatures) (names : Names) where
  abbrev mk : Makers tree_reader
  mk = tree_maker names

  -- a declaration has no cause, nor have those behind it
  pub decls-free : (k : Kind) (p : Place) (n : ℕ) (s t : Tree_stack) (d : Decl) (ds : Decls) → read_decl fs mk (deeper p n) s d ≡ Some t → IsFree (decls_checks fs mk p n k s (declare d ds)) →
      IsFree (decl_checks fs mk (deeper p n) s d) × IsFree (decls_checks fs mk p (suc n) k t ds)
  decls-free k p n s t d ds e free =
      let rest : Tree_stack → Checks = λ u. decls_checks fs mk p (suc n) k u ds in
      let own : Checks = decl_checks fs mk (deeper p n) s d in
      let later : Checks = on_read rest (read_decl fs mk (deeper p n) s d) in
      (free_left own later free, subst (λ (o : Option Tree_stack). IsFree (on_read rest o)) e (free_right own later free))

  -- nor has the end
  pub decls-end : (k : Kind) (p : Place) (n : ℕ) (s u : Tree_stack) (ds : Decls) → IsFree (decls_checks fs mk p n k s ds) → read_decls fs mk p n s ds ≡ Some u → IsFree (declared_end_checks k u.top)
  decls-end k p n s u no_decls free e = subst (λ (t : Tree_stack). IsFree (declared_end_checks k t.top)) (some-inj e) free
  decls-end k p n s u (declare d ds) free e =
      let m = then-some (λ (t : Tree_stack). read_decls fs mk p (suc n) t ds) (read_decl fs mk (deeper p n) s d) u e in
      decls-end k p (suc n) m.0 u ds (decls-free k p n s m.0 d ds m.1 free).1 m.2

  -- and the declarations of a type have none that has none
  pub type-free : (k : Kind) (p : Place) (s : Tree_stack) (ds : Decls) → IsFree (full_stack s ++ (decls_checks fs mk p 0 k (inside k s) ds ++ no_type_room true (counts s.top))) → IsFree (decls_checks fs mk p 0 k (inside k s) ds)
  type-free k p s ds free =
      let own : Checks = decls_checks fs mk p 0 k (inside k s) ds in
      let room : Checks = no_type_room true (counts s.top) in
      free_left own room (free_right (full_stack s) (own ++ room) free)

  pub type_item-free : (p : Place) (s : Tree_stack) (t : Type_form) → IsFree (item_causes fs mk p s (type_item t)) → IsFree (declared_checks true fs mk p s t)
  type_item-free p s t free = free_left (declared_checks true fs mk p s t) (declared_left t) free

  pub plain-free : (p : Place) (s : Tree_stack) (f : Form) → IsFree (call_checks fs (mk p) s f ++ left_checks s.top f) → IsFree (call_checks fs (mk p) s f)
  plain-free p s f free = free_left (call_checks fs (mk p) s f) (left_checks s.top f) free
