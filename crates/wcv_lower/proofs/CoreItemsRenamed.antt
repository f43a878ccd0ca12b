-- What core modules import, what core instances export, and what a core item is, are the same under a renaming.
use Rattle.std.proofs.Common.{◌≡◌, ◌++◌, refl}
use Rattle.wcv_types.specs.Rename.{rename, rename_parts, rename_head}
use Rattle.wcv_types.specs.Tree.{Head, core_item, here, core_import, core_export, Tree, node, Parts, none, part, head, parts}
use Rattle.wcv_matching.specs.ModuleItems.{item_at, before, core_imports_in, core_exports_in, instance_exports_in, instance_exports}

module _ {R S I J : Type 0} (f : R → S) (g : I → J) where
  item_at-renamed : (h : Head R I) → item_at (rename_head f g h) ≡ item_at h
  item_at-renamed (core_item e) = refl
  item_at-renamed _ = refl

  pub item-renamed : (t : Tree R I) → item_at (head (rename f g t)) ≡ item_at (head t)
  item-renamed (node h ps) = item_at-renamed h

  imports_in-renamed : (ps : Parts R I) → core_imports_in (rename_parts f g ps) ≡ core_imports_in ps
  imports_in-renamed none = refl
  imports_in-renamed (part (core_import m n) t ps) = λ j. before (m, n) (item-renamed t j) (imports_in-renamed ps j)
  imports_in-renamed (part r t ps) = imports_in-renamed ps

  exports_in-renamed : (ps : Parts R I) → core_exports_in (rename_parts f g ps) ≡ core_exports_in ps
  exports_in-renamed none = refl
  exports_in-renamed (part (core_export n) t ps) = λ j. before n (item-renamed t j) (exports_in-renamed ps j)
  exports_in-renamed (part r t ps) = exports_in-renamed ps

  module_exports-renamed : (t : Tree R I) → core_exports_in (parts (rename f g t)) ≡ core_exports_in (parts t)
  module_exports-renamed (node h ps) = exports_in-renamed ps

  instance_in-renamed : (ps : Parts R I) → instance_exports_in (rename_parts f g ps) ≡ instance_exports_in ps
  instance_in-renamed none = refl
  instance_in-renamed (part here t ps) = λ j. module_exports-renamed t j ++ instance_in-renamed ps j
  instance_in-renamed (part (core_export n) t ps) = λ j. before n (item-renamed t j) (instance_in-renamed ps j)
  instance_in-renamed (part r t ps) = instance_in-renamed ps

  pub core_imports-renamed : (t : Tree R I) → core_imports_in (parts (rename f g t)) ≡ core_imports_in (parts t)
  core_imports-renamed (node h ps) = imports_in-renamed ps

  pub core_exports-renamed : (t : Tree R I) → instance_exports (rename f g t) ≡ instance_exports t
  core_exports-renamed (node h ps) = instance_in-renamed ps
