use Rattle.std.proofs.Common.{◌≡◌, ◌++◌, ◌∙◌, List, [], ◌∷◌, ap, sym, subst}
use Rattle.wcv_spaces.specs.Contents.{Contents, kind_of, empty_state}
use Rattle.wcv_decls.specs.Declaring.{innermost, around, features_in, AreReady, Opened}
use Rattle.wcv_decls.proofs.InnermostStates.{parted}
use Rattle.wcv_decls.proofs.Opening.{opened, is_opened, opened_ready}
use Rattle.wcv_decls.proofs.open.push_state.Goals as goal

pub returns-clause-ok : goal.returns-clause-ok
returns-clause-ok c =
    let a = c.args.types.now in
    let ss : List Contents = c.args.components.now.items in
    let here : c.innermost.result.now ≡ innermost ss = c.innermost.ensures (around ss) (innermost ss) (c.as_slice.ensures.value ∙ parted ss c.requires.some) in
    let made : c.new-state.result ≡ empty_state c.args.kind (features_in ss) = c.new-state.ensures ∙ ap (empty_state c.args.kind) (c.features-features.ensures ∙ ap (λ (s : Contents). s.features) here) in
    let now : c.push.new.self.items ≡ opened a c.args.kind ss c.requires = c.in_ok-push.ensures.items ∙ ap (λ (s : Contents). ss ++ s ∷ []) made in
    subst (Opened (kind_of c.args.kind) a ss) (sym now) (is_opened a c.args.kind ss c.requires)

pub returns-clause-ready : goal.returns-clause-ready
returns-clause-ready c =
    let a = c.args.types.now in
    let ss : List Contents = c.args.components.now.items in
    let here : c.innermost.result.now ≡ innermost ss = c.innermost.ensures (around ss) (innermost ss) (c.as_slice.ensures.value ∙ parted ss c.requires.some) in
    let made : c.new-state.result ≡ empty_state c.args.kind (features_in ss) = c.new-state.ensures ∙ ap (empty_state c.args.kind) (c.features-features.ensures ∙ ap (λ (s : Contents). s.features) here) in
    let now : c.push.new.self.items ≡ opened a c.args.kind ss c.requires = c.in_ok-push.ensures.items ∙ ap (λ (s : Contents). ss ++ s ∷ []) made in
    subst (AreReady a) (sym now) (opened_ready a c.args.kind ss c.requires)
