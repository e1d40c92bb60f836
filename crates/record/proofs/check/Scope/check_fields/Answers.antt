-- The kind is answered yes and a party's question no; the others the check finds.
use Rattle.std.proofs.Common.{◌≡◌, List, [], ◌∷◌, ◌++◌, Err, rules}
use Rattle.question.specs.Question.{Question, ◌else◌, given, worked}
use Rattle.question.proofs.Questions.{asked_no, asked_yes}
use Rattle.record.specs.Kind.{is_of}
use Rattle.record.specs.Record.{party_questions, content_questions, field_questions}
use Rattle.record.proofs.check.Scope.check_fields.Goals as goal

pub returns-in_err-check_parties : goal.returns-in_err-check_parties
unfolding field_questions
returns-in_err-check_parties c =
    let s = c.args.self in
    let f = c.args.f in
    let parties = party_questions s.family s.k s.n f in
    let content = content_questions s.family f in
    let kind : List Question = (is_of s.family f.kind else 7) ∷ [] in
    let is : c.from_residual-in_err-check_parties.result ≡ Err c.in_err-check_parties.field-0.0 = search rules in
    let no = asked_no parties content (given worked) c.in_err-check_parties.ensures in
    rw is (asked_yes kind (parties ++ content) (given worked) (rw c.is_of.ensures at c.in_ok-ask.ensures) no)
