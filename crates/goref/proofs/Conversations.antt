-- How a session goes on from line to line.
use Rattle.std.proofs.Common.{◌≡◌, ◌∙◌, ℕ, Bool, true, false, List, [], ◌∷◌, ◌++◌, Option, Some, None, Ok, Err, refl, sym, ap, subst, append_assoc}
use Rattle.std.proofs.lemmas.List.{append-nil}
use Rattle.go_board.specs.Device.{then_bytes}
use Rattle.go_board.specs.declared.device.WriteFault.{WriteFault}
use Rattle.go_board.specs.lemmas.Writing.{then_bytes-then_bytes, then_bytes-nil}
use Rattle.go_game.specs.Standings.{Standing}
use Rattle.goref_lines.specs.Kept.{kept}
use Rattle.goref_session.specs.Contents.{Content, nothing, missing}
use Rattle.goref.specs.Shelves.{Pair, then_pairs}
use Rattle.goref_session.specs.Answered.{flow_of}
use Rattle.goref_session.specs.declared.flow.Flow.TheVariants.{More, Quit}
use Rattle.goref_session.specs.Replies.{Said, Reply, wanted}
use Rattle.goref_session.specs.Laws.{SomeReply}
use Rattle.goref.specs.Conversation.{AsksShelf, Conversation, ends, quits, goes_on, Converses, BreaksOff, GetsTo, GoesOn, Responds, WasCut}
use Rattle.goref.specs.lemmas.Conversations.{retold}

-- something can be fetched for each line
some_content : (want : Option (List ℕ)) → (content : Content) × (asked : List Pair) × AsksShelf want content asked
some_content None = (nothing, [], (refl, refl))
some_content (Some name) = (missing, (name, missing) ∷ [], refl)

abbrev pub SomeConversation : Standing → List (List ℕ) → Type 0
SomeConversation s lines = (asked : List Pair) × (text : List ℕ) × Conversation s lines asked text

-- a reply that ends the session, or one after which it goes on
pub some_more : (s : Standing) (line : List ℕ) (lines : List (List ℕ)) (content : Content) (asked : List Pair)
    (reply : Said) (stop : Bool) →
    AsksShelf (wanted (kept line)) content asked → Reply s (kept line) content reply → reply.ends ≡ stop →
    SomeConversation reply.standing lines →
    (later : List Pair) × (rest : List ℕ) × Conversation s (line ∷ lines) (asked ++ later) (reply.text ++ rest)
some_more s line lines content asked reply true asks is e c = (
  [],
  [],
  retold refl (sym (append-nil asked)) (sym (append-nil reply.text))
      (quits s line lines content asked reply asks is e),
)
some_more s line lines content asked reply false asks is e c =
    (c.0, c.1, goes_on s line lines content asked reply c.0 c.1 asks is e c.2)

-- each list of lines can be answered, since each line can
pub some_conversation : SomeReply → (lines : List (List ℕ)) (s : Standing) → SomeConversation s lines
some_conversation law [] s = ([], [], ends s)
some_conversation law (line ∷ lines) s =
    let f = some_content (wanted (kept line)) in
    let r = law s (kept line) f.0 in
    let reply : Said = r.0 in
    let c = some_more s line lines f.0 f.1 reply reply.ends f.2 r.1 refl (some_conversation law lines reply.standing) in
    (f.1 ++ c.0, reply.text ++ c.1, c.2)

-- ---- what a shelf was asked, and what a writer took, piece by piece

then_pairs-then_pairs : (o : Option (List Pair)) (a b : List Pair) →
    then_pairs (then_pairs o a) b ≡ then_pairs o (a ++ b)
then_pairs-then_pairs None a b = refl
then_pairs-then_pairs (Some xs) a b = ap Some (append_assoc xs a b)

pub then_pairs-nil : (o : Option (List Pair)) → then_pairs o [] ≡ o
then_pairs-nil None = refl
then_pairs-nil (Some xs) = ap Some (append-nil xs)

pairs_on : (o : Option (List Pair)) {o' o'' : Option (List Pair)} (a b : List Pair) →
    o' ≡ then_pairs o a → o'' ≡ then_pairs o' b → o'' ≡ then_pairs o (a ++ b)
pairs_on o a b e f = f ∙ ap (λ p. then_pairs p b) e ∙ then_pairs-then_pairs o a b

bytes_on : (o : Option (List ℕ)) {o' o'' : Option (List ℕ)} (a b : List ℕ) →
    o' ≡ then_bytes o a → o'' ≡ then_bytes o' b → o'' ≡ then_bytes o (a ++ b)
bytes_on o a b e f = f ∙ ap (λ p. then_bytes p b) e ∙ then_bytes-then_bytes o a b

-- ---- lines that are answered one after another

-- before the first line
pub goes_first : (s : Standing) (given : Option (List Pair)) (taken : Option (List ℕ)) →
    GoesOn s [] s given given taken taken
goes_first s given taken = record {
  asked = [];
  text = [];
  reaches = record { on = λ more later rest c. c };
  tells = sym (then_pairs-nil given);
  took = sym (then_bytes-nil taken);
}

goes : (b : Bool) → More ≡ flow_of b → b ≡ false
goes true e = cc
goes false e = refl

stops : (b : Bool) → Quit ≡ flow_of b → b ≡ true
stops true e = refl
stops false e = cc

-- one more line was answered, and the session goes on
reaches_next : {s now : Standing} {lines : List (List ℕ)} {asked : List Pair} {text : List ℕ} →
    GetsTo s lines asked text now →
    (line : List ℕ) (content : Content) (asked' : List Pair) (reply : Said) →
    AsksShelf (wanted (kept line)) content asked' → Reply now (kept line) content reply → reply.ends ≡ false →
    GetsTo s (lines ++ line ∷ []) (asked ++ asked') (text ++ reply.text) reply.standing
reaches_next {s} {now} {lines} {asked} {text} r line content asked' reply asks is e = record {
  on = λ more later rest c.
      retold (sym (append_assoc lines (line ∷ []) more)) (sym (append_assoc asked asked' later))
      (sym (append_assoc text reply.text rest))
      (r.on (line ∷ more) (asked' ++ later) (reply.text ++ rest)
      (goes_on now line more content asked' reply later rest asks is e c));
}

module _ {s now : Standing} {lines : List (List ℕ)} {given given' : Option (List Pair)} {taken taken' : Option (List ℕ)}
    (p : GoesOn s lines now given given' taken taken') where
  module _ {new : Standing} {given'' : Option (List Pair)} {taken'' : Option (List ℕ)} (line : List ℕ) where
    pub goes_next : Responds now new (kept line) (Ok More) given' given'' taken' taken'' →
        GoesOn s (lines ++ line ∷ []) new given given'' taken taken''
    goes_next r = record {
      asked = p.asked ++ r.asked;
      text = p.text ++ r.answered.reply.text;
      reaches =
          let P : Standing → Type 0 = λ x.
          GetsTo s (lines ++ line ∷ []) (p.asked ++ r.asked) (p.text ++ r.answered.reply.text) x in
          subst P (sym r.answered.stands)
          (reaches_next p.reaches line r.content r.asked r.answered.reply r.asks r.answered.is_reply
          (goes r.answered.reply.ends r.answered.sent.0));
      tells = pairs_on given p.asked r.asked p.tells r.tells;
      took = bytes_on taken p.text r.answered.reply.text p.took r.answered.sent.1;
    }

    -- one more line ended the session, whatever comes after it
    pub goes_to_end : (later : List (List ℕ)) → Responds now new (kept line) (Ok Quit) given' given'' taken' taken'' →
        Converses s (lines ++ line ∷ later) given given'' taken taken''
    goes_to_end later r = record {
      asked = p.asked ++ r.asked;
      text = p.text ++ r.answered.reply.text;
      is = p.reaches.on (line ∷ later) r.asked r.answered.reply.text
          (quits now line later r.content r.asked r.answered.reply r.asks r.answered.is_reply
          (stops r.answered.reply.ends r.answered.sent.0));
      tells = pairs_on given p.asked r.asked p.tells r.tells;
      took = bytes_on taken p.text r.answered.reply.text p.took r.answered.sent.1;
    }

    -- the answer to one more line wasn't written whole
    pub goes_to_cut : (later all : List (List ℕ)) → lines ++ line ∷ later ≡ all → {fault : WriteFault} →
        Responds now new (kept line) (Err fault) given' given'' taken' taken'' →
        WasCut s all new given given'' taken taken''
    goes_to_cut later all e {fault} r = record {
      before = lines;
      line = line;
      after = later;
      whole = sym e;
      between = now;
      given_before = given';
      taken_before = taken';
      goes_on = p;
      fault = fault;
      is_cut = r;
    }

-- what was written of lines up to one that was cut is a prefix of a conversation
pub cut_breaks_off : {s now : Standing} {lines : List (List ℕ)} {given given' : Option (List Pair)}
    {taken taken' : Option (List ℕ)} →
    SomeReply → WasCut s lines now given given' taken taken' → BreaksOff s lines given given' taken taken'
cut_breaks_off {s} {now} {lines} {given} {given'} {taken} {taken'} law w =
    let p = w.goes_on in
    let r = w.is_cut in
    let t = r.answered.sent in
    let c = some_more w.between w.line w.after r.content r.asked r.answered.reply r.answered.reply.ends r.asks
    r.answered.is_reply refl
    (some_conversation law w.after r.answered.reply.standing) in
    record {
      asked = p.asked ++ r.asked;
      later = c.0;
      text = p.text ++ t.prefix;
      rest = t.rest ++ c.1;
      is = retold (sym w.whole) (sym (append_assoc p.asked r.asked c.0))
          (ap (λ x. p.text ++ (x ++ c.1)) t.whole ∙ ap (λ x. p.text ++ x) (append_assoc t.prefix t.rest c.1)
          ∙ sym (append_assoc p.text t.prefix (t.rest ++ c.1)))
          (p.reaches.on (w.line ∷ w.after) (r.asked ++ c.0) (r.answered.reply.text ++ c.1) c.2);
      tells = pairs_on given p.asked r.asked p.tells r.tells;
      took = bytes_on taken p.text t.prefix p.took t.taken;
    }
