use Rattle.std.proofs.Common.{◌≡◌, ◌∙◌, ◌<◌, ◌||◌, length, arith, ap, sym, subst, rules, is_some, IfSome, Option, Some, None, List, ℕ, false, true}
use Rattle.std.specs.Io.KnownBytes.{Appends}
use Rattle.wcv_core.specs.declared.limits.TheConstants.{MAX_LISTING}
use Rattle.wcv_main.specs.declared.status.Status.{Status}
use Rattle.wcv_main.specs.declared.status.Status.TheVariants as status
use Rattle.wcv_main.specs.Commands.{is_command, made_number, reading_of}
use Rattle.wcv_main.specs.declared.reading.Reading.{Reading}
use Rattle.wcv_main.specs.declared.reading.Reading.TheVariants as reading
use Rattle.wcv_main.specs.Due.{due_of_bytes, due_unread, due_over, IsExpected}
use Rattle.wcv_main.proofs.Answering.{nothing_cut, cuts_after, answers_after, same_due}
use Rattle.wcv_main.proofs.Ending.{answer_due, status_is, appended, ends_with, no_words, no_read_fault, faults_rose, write_failed, never_fewer, bytes_long, bytes_short, words_alone, never_too_long, words_due}
use Rattle.wcv_main.specs.Answers.{Ends, IsAnswer}
use Rattle.wcv_main.proofs.top.run.Given.{Over}
use Rattle.wcv_main.proofs.top.run.Goals.{After-drop-bytes, After-answer_unread}
use Rattle.wcv_main.proofs.top.run.Goals as goal

-- nothing is read, whatever the bytes are
unread_due : (words : List (List ℕ)) (left : Option (List ℕ)) (s : Status) (text : List ℕ) → reading_of words ≡ None → IsExpected (due_unread words) s text
    → IfSome (due_over words left) (λ due. IsExpected due s text)
unread_due words left s text none h = rw none h

-- words that read are a command
is_no_command : (words : List (List ℕ)) (r : Reading) → reading_of words ≡ Some r → is_command words ≡ false → ⊥
is_no_command words r right other = let e : is_command words ≡ true = ap (λ (o : Option Reading). is_some o || is_some (made_number words)) right in cc

-- the bytes that were read say what is due
bytes_due : (words : List (List ℕ)) (r : Reading) (left : Option (List ℕ)) (v : List ℕ) (s : Status) (text : List ℕ) → reading_of words ≡ Some r
    → IfSome left (λ bytes. due_of_bytes r v ≡ due_of_bytes r bytes) → IsExpected (due_of_bytes r v) s text → IfSome (due_over words left) (λ due. IsExpected due s text)
bytes_due words r None v s text right same due = rw right tt
bytes_due words r (Some bytes) v s text right same due = rw right (subst (λ d. IsExpected d s text) same due)

-- one reading of the same words
same_reading : (r q : Reading) → Some r ≡ Some q → r ≡ q
same_reading r q e = ap (λ (o : Option Reading). or_listing o) e
  where
    or_listing : Option Reading → Reading
    or_listing None = reading.Listing
    or_listing (Some x) = x

pub returns-in-Err-clause-cuts : goal.returns-in-Err-clause-cuts
returns-in-Err-clause-cuts g c = nothing_cut c.args.words.now (g.S.Source.left c.args.source.now) _ _

pub returns-in-Err-Memory-clause-cuts : goal.returns-in-Err-Memory-clause-cuts
returns-in-Err-Memory-clause-cuts g c = nothing_cut c.args.words.now (g.S.Source.left c.args.source.now) _ _

-- the bytes that were read were answered
ended : (g : Over) (c : After-drop-bytes g) → Ends (due_of_bytes c.in-Ok-Some.reading c.in-Ok.bytes.items) c.answer.result (g.K.Sink.taken c.args.sink.now) (g.K.Sink.taken c.answer.new.sink) (g.K.Sink.faults c.args.sink.now) (g.K.Sink.faults c.answer.new.sink)
ended g c = subst (λ (bytes : List ℕ). Ends (due_of_bytes c.in-Ok-Some.reading bytes) c.answer.result (g.K.Sink.taken c.args.sink.now) (g.K.Sink.taken c.answer.new.sink) (g.K.Sink.faults c.args.sink.now) (g.K.Sink.faults c.answer.new.sink)) c.deref.ensures.value c.answer.ensures

-- with the text that is due for all that were left
due : (g : Over) (c : After-drop-bytes g) → IfSome (due_over c.args.words.now (g.S.Source.left c.args.source.now)) (λ due. IsExpected due (ended g c).0 (ended g c).1)
due g c =
    let left : Option (List ℕ) = g.S.Source.left c.args.source.now in
    let bytes : List ℕ = c.in-Ok.bytes.items in
    let right : reading_of c.args.words.now ≡ Some c.in-Ok-Some.reading = search rules in
    let e = ended g c in
    bytes_due c.args.words.now c.in-Ok-Some.reading left bytes e.0 e.1 right (same_due c.in-Ok-Some.reading left _ bytes c.in-Ok.ensures.bytes c.in-Ok.ensures.limit c.in-Ok.ensures.end) e.2

pub returns-clause-answers : goal.returns-clause-answers
returns-clause-answers g c =
    let e = ended g c in
    answers_after c.args.words.now (g.S.Source.left c.args.source.now) _ _ c.answer.result e.0 e.1 _ _ (answer_due (due_of_bytes c.in-Ok-Some.reading c.in-Ok.bytes.items) c.answer.result _ _ _ _ e) (due g c) e.3

pub returns-clause-cuts : goal.returns-clause-cuts
returns-clause-cuts g c =
    let e = ended g c in
    cuts_after c.args.words.now (g.S.Source.left c.args.source.now) _ _ c.answer.result e.0 e.1 _ _ (answer_due (due_of_bytes c.in-Ok-Some.reading c.in-Ok.bytes.items) c.answer.result _ _ _ _ e) (due g c) e.3

pub returns-clause-usage : goal.returns-clause-usage
returns-clause-usage g c = λ q. absurd (no_words c.in-Ok-Some.reading c.in-Ok.bytes.items c.answer.result _ _ _ _ (ended g c) q)

pub returns-clause-words : goal.returns-clause-words
returns-clause-words g c = λ other. absurd (is_no_command c.args.words.now c.in-Ok-Some.reading (search rules) other)

pub returns-in-Err-Failed-clause-words : goal.returns-in-Err-Failed-clause-words
returns-in-Err-Failed-clause-words g c = λ other. absurd (is_no_command c.args.words.now c.in-Ok-Some.reading (search rules) other)

pub returns-in-Err-Memory-clause-words : goal.returns-in-Err-Memory-clause-words
returns-in-Err-Memory-clause-words g c = λ other. absurd (is_no_command c.args.words.now c.in-Ok-Some.reading (search rules) other)

pub returns-clause-read_fault : goal.returns-clause-read_fault
returns-clause-read_fault g c = λ q. absurd (no_read_fault (due_of_bytes c.in-Ok-Some.reading c.in-Ok.bytes.items) c.answer.result _ _ _ _ (ended g c) q)

pub returns-clause-write_fault : goal.returns-clause-write_fault
returns-clause-write_fault g c = faults_rose (due_of_bytes c.in-Ok-Some.reading c.in-Ok.bytes.items) c.answer.result _ _ _ _ (ended g c)

pub returns-clause-write_always : goal.returns-clause-write_always
returns-clause-write_always g c = write_failed (due_of_bytes c.in-Ok-Some.reading c.in-Ok.bytes.items) c.answer.result _ _ _ _ (ended g c)

pub returns-clause-sink_later : goal.returns-clause-sink_later
returns-clause-sink_later g c = never_fewer (due_of_bytes c.in-Ok-Some.reading c.in-Ok.bytes.items) c.answer.result _ _ _ _ (ended g c)

pub returns-clause-too_long : goal.returns-clause-too_long
returns-clause-too_long g c = λ q is.
    let bytes : List ℕ = c.in-Ok.bytes.items in
    let right : reading_of c.args.words.now ≡ Some c.in-Ok-Some.reading = search rules in
    let listing : c.in-Ok-Some.reading ≡ reading.Listing = same_reading _ _ (sym right ∙ is) in
    let long : MAX_LISTING < length bytes = bytes_long c.in-Ok-Some.reading bytes c.answer.result _ _ _ _ (ended g c) listing q in
    (bytes, c.in-Ok.ensures.bytes, omega (arith, long, c.in-Ok.ensures.limit))

pub returns-clause-to_the_end : goal.returns-clause-to_the_end
returns-clause-to_the_end g c = λ right q. c.in-Ok.ensures.end (bytes_short c.in-Ok-Some.reading c.in-Ok.bytes.items c.answer.result _ _ _ _ (ended g c) q)

-- where nothing is read
module _ (g : Over) (c : After-answer_unread g) where
  wrong : reading_of c.args.words.now ≡ None
  wrong = search rules

  -- what is due
  due_for_words : IfSome (due_over c.args.words.now (g.S.Source.left c.args.source.now)) (λ due. IsExpected due c.answer_unread.ensures.0 c.answer_unread.ensures.1)
  due_for_words = unread_due c.args.words.now (g.S.Source.left c.args.source.now) _ _ wrong c.answer_unread.ensures.2

  status_due : (s : Status) → IsAnswer s → c.answer_unread.result ≡ s → c.answer_unread.ensures.0 ≡ s
  status_due = status_is (due_unread c.args.words.now) c.answer_unread.result _ _ _ _ c.answer_unread.ensures

pub returns-in-Ok-None-clause-answers : goal.returns-in-Ok-None-clause-answers
returns-in-Ok-None-clause-answers g c =
    let e = c.answer_unread.ensures in
    answers_after c.args.words.now (g.S.Source.left c.args.source.now) _ _ c.answer_unread.result e.0 e.1 _ _ (answer_due (due_unread c.args.words.now) c.answer_unread.result _ _ _ _ e) (due_for_words g c) e.3

pub returns-in-Ok-None-clause-cuts : goal.returns-in-Ok-None-clause-cuts
returns-in-Ok-None-clause-cuts g c =
    let e = c.answer_unread.ensures in
    cuts_after c.args.words.now (g.S.Source.left c.args.source.now) _ _ c.answer_unread.result e.0 e.1 _ _ (answer_due (due_unread c.args.words.now) c.answer_unread.result _ _ _ _ e) (due_for_words g c) e.3

pub returns-in-Ok-None-clause-words : goal.returns-in-Ok-None-clause-words
returns-in-Ok-None-clause-words g c = λ other.
    let e = c.answer_unread.ensures in
    let none : is_some (made_number c.args.words.now) ≡ false = sym (ap (λ (o : Option Reading). is_some o || is_some (made_number c.args.words.now)) (wrong g c)) ∙ other in
    ends_with (due_unread c.args.words.now) c.answer_unread.result _ _ _ _ e status.Words (words_due (made_number c.args.words.now) e.0 e.1 e.2 none)

pub returns-in-Ok-None-clause-usage : goal.returns-in-Ok-None-clause-usage
returns-in-Ok-None-clause-usage g c = λ q.
    let e = c.answer_unread.ensures in
    let w = words_alone (made_number c.args.words.now) e.0 e.1 e.2 (status_due g c status.Words tt q) in (
      ap (λ (o : Option Reading). is_some o || is_some (made_number c.args.words.now)) (wrong g c) ∙ w.0,
      subst (λ (text : List ℕ). Appends (g.K.Sink.taken c.args.sink.now) (g.K.Sink.taken c.answer_unread.new.sink) text) w.1
          (appended (due_unread c.args.words.now) c.answer_unread.result _ _ _ _ e (subst IsAnswer (sym q) tt)),
    )

pub returns-in-Ok-None-clause-read_fault : goal.returns-in-Ok-None-clause-read_fault
returns-in-Ok-None-clause-read_fault g c = λ q. absurd (no_read_fault (due_unread c.args.words.now) c.answer_unread.result _ _ _ _ c.answer_unread.ensures q)

pub returns-in-Ok-None-clause-write_fault : goal.returns-in-Ok-None-clause-write_fault
returns-in-Ok-None-clause-write_fault g c = faults_rose (due_unread c.args.words.now) c.answer_unread.result _ _ _ _ c.answer_unread.ensures

pub returns-in-Ok-None-clause-write_always : goal.returns-in-Ok-None-clause-write_always
returns-in-Ok-None-clause-write_always g c = write_failed (due_unread c.args.words.now) c.answer_unread.result _ _ _ _ c.answer_unread.ensures

pub returns-in-Ok-None-clause-sink_later : goal.returns-in-Ok-None-clause-sink_later
returns-in-Ok-None-clause-sink_later g c = never_fewer (due_unread c.args.words.now) c.answer_unread.result _ _ _ _ c.answer_unread.ensures

pub returns-in-Ok-None-clause-too_long : goal.returns-in-Ok-None-clause-too_long
returns-in-Ok-None-clause-too_long g c = λ q is.
    let e = c.answer_unread.ensures in absurd (never_too_long (made_number c.args.words.now) e.0 e.1 e.2 (status_due g c status.TooLong tt q))
