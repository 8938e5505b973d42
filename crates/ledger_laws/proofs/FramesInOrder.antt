-- In every log of an ordinary pair the frames of a lane and a session are delivered in order and once.
use Rattle.std.proofs.Common.{◌≡◌, ℕ, zero, suc, ◌+◌, ◌*◌, ◌<◌, ◌≤◌, ◌==◌, Bool, true, false, List, [], ◌∷◌, ◌++◌, length, take, refl, sym, ap, ◌∙◌, subst, inl, inr, arith, ◌⊎◌, append_assoc}
use Rattle.std.specs.Prelude.{if◌then◌else◌, nat_lt, slice_index_or}
use Rattle.std.proofs.lemmas.Bool.{cases_eq, cases_order, cases_Bool, false≢true, both_ways, ltb-false}
use Rattle.std.proofs.lemmas.List.{append-nil, take-append-le, take_more, length-append, take_all, get_or_append_left}
use Rattle.std.proofs.Math.Seq.{take-add}
use Rattle.step_kinds.specs.Bits.{has_bit}
use Rattle.step_kinds.specs.declared.names.LaneName.{LaneName}
use Rattle.step_kinds.specs.declared.plan.Plan.{Plan}
use Rattle.lane_model.specs.Lane.{Entry, Carries, GoesDown, bytes_of, chunk_of, chunk_size, chunks_in}
use Rattle.lane_model.specs.declared.Phase.{Phase}
use Rattle.lane_model.specs.declared.Phase.TheVariants.{Idle, Copying, Copied, Cleared}
use Rattle.ledger_model.specs.Ledger.{LanePart}
use Rattle.pair_model.specs.Link.{is_up}
use Rattle.ledger_model.specs.Log.{Answered, Numbered, accepts, delivers, accepted, delivered, first_session, log_of, ledger_of}
use Rattle.ledger_model.specs.Next.{fresh_pair}
use Rattle.ledger_model.specs.Receiving.{is_idle, is_copying, is_copied, is_cleared}
use Rattle.pair_model.specs.Plans.{pair_plan}
use Rattle.ledger_laws.specs.Laws.{LogBegins as BeginsList, NumberedFrom, EveryLogIsInOrder, EveryFrameComesOnce}
use Rattle.ledger_laws.proofs.AtStart.{fresh-lane, down-not_up}
use Rattle.ledger_laws.proofs.BitSets.{no_bit}
use Rattle.ledger_laws.proofs.Frames.{frames_from, number_after, rest_after, frames-append, number-append, rest-append, frames-begin, frames-numbered, numbered-begin, times-once, carries-within}
use Rattle.ledger_laws.proofs.LogReaders.{session_at}
use Rattle.ledger_laws.proofs.PiecesJoined.{OneFrame, pieces_one_frame, no_byte_fits}
use Rattle.ledger_laws.proofs.Tallies.{added, added-none, added-now, added-elsewhere, of_lists, more_found, now_kept, session_kept, fresh_now}
use Rattle.ledger_laws.proofs.walk.Logs.{HoldsAlways, always_after}
use Rattle.ledger_laws.proofs.walk.Sight.{Sight, Sender, Receiver, sight}
use Rattle.ledger_laws.proofs.walk.News.{News, Tells}
use Rattle.ledger_laws.proofs.walk.Turn.{Turn, IsRaw, SizesOf, Trains, Breaks, Drops, Forgets, Joins, Begins, Closes, PostsNext, Strays, Looks, CopiesPart, CopiesEntry, CopiesLast, Clears, Acks}

-- What a turn adds to the frames of the session, or a session begins anew

pub data Grows (more before : List Numbered) : Bool → List Numbered → Type 0 where
  GoOn : {after : List Numbered} → after ≡ before ++ more → Grows more before false after
  Anew : {after : List Numbered} → more ≡ [] → after ≡ [] → Grows more before true after

same_frames : {before after : List Numbered} → after ≡ before → Grows [] before false after
same_frames {before} e = GoOn (e ∙ sym (append-nil before))

-- What was begun, `coming` being the entries of the last frame that are still to come

pub record Begun (up : Bool) (sent waiting coming : List Entry) (told : ℕ) : Type 0 where
  -- they are those that wait, until the sender has forgotten the session
  pub to_come : (coming ≡ waiting) ⊎ ((waiting ≡ []) × (up ≡ false))
  -- each frame has its number, and nothing rests after the last
  pub told_is : number_after 0 (sent ++ coming) ≡ told
  pub whole : rest_after [] (sent ++ coming) ≡ []

abbrev pub BegunOf : Sight → List Entry → Type 0
BegunOf s coming = Begun (is_up s.state) s.lane.sent s.lane.waiting coming s.lane.told

-- the frames that were accepted
abbrev pub taken_of : Sight → List Entry → List Numbered
taken_of s coming = frames_from 0 [] (s.lane.sent ++ coming)

-- nothing is to come where nothing waits
pub none_comes : {up : Bool} {sent waiting coming : List Entry} {told : ℕ} → up ≡ true → waiting ≡ [] → Begun up sent waiting coming told → coming ≡ []
none_comes {up} is none h = elim h.to_come [ inl e ↦ e ∙ none | inr over ↦ absurd (both_ways up over.1 is) ]

-- the link isn't up
begun_down : {up : Bool} {sent waiting coming : List Entry} {told : ℕ} → Begun up sent waiting coming told → Begun false sent waiting coming told
begun_down h = record { to_come = elim h.to_come [ inl e ↦ inl e | inr over ↦ inr (over.0, refl) ]; told_is = h.told_is; whole = h.whole }

-- what was begun with these entries more, the first of which is begun now
module _ (sent : List Entry) (first : Entry) (others : List Entry) where
  one_begun : (sent ++ first ∷ []) ++ others ≡ sent ++ first ∷ others
  one_begun = append_assoc sent (first ∷ []) others

  begun_with : (up : Bool) (told : ℕ) → number_after 0 (sent ++ first ∷ others) ≡ told → rest_after [] (sent ++ first ∷ others) ≡ []
      → Begun up (sent ++ first ∷ []) others others told
  begun_with up told number rest = record { to_come = inl refl; told_is = ap (number_after 0) one_begun ∙ number; whole = ap (rest_after []) one_begun ∙ rest }

pub record BegunNext (news : News) (s t : Sight) (coming : List Entry) : Type 0 where
  pub after : List Entry
  pub begun : BegunOf t after
  pub grows : Grows news.accepted (taken_of s coming) news.starts (taken_of t after)

-- a frame of one number more, after whole frames
record Behind (sent pieces : List Entry) (told : ℕ) (bytes : List ℕ) : Type 0 where
  number : number_after 0 (sent ++ pieces) ≡ told + 1
  rest : rest_after [] (sent ++ pieces) ≡ []
  frames : frames_from 0 [] (sent ++ pieces) ≡ frames_from 0 [] sent ++ record { number = told; bytes = bytes } ∷ []

frame_behind : (sent pieces : List Entry) (told : ℕ) (bytes : List ℕ) → number_after 0 sent ≡ told → rest_after [] sent ≡ [] → OneFrame told [] pieces bytes → Behind sent pieces told bytes
frame_behind sent pieces told bytes number rest one = record {
  number = number-append 0 sent pieces ∙ ap (λ n. number_after n pieces) number ∙ one.number;
  rest = rest-append [] sent pieces ∙ ap (λ r. rest_after r pieces) rest ∙ one.none_left;
  frames =
      frames-append 0 [] sent pieces ∙ ap (λ n. frames_from 0 [] sent ++ frames_from n (rest_after [] sent) pieces) number
      ∙ ap (λ r. frames_from 0 [] sent ++ frames_from told r pieces) rest ∙ ap (λ frames. frames_from 0 [] sent ++ frames) one.frames;
}

-- what is so of the entries that were begun and are to come is so of those that were begun, if none is to come
pub alone : {X : Type 0} (read : List Entry → X) (sent coming : List Entry) → coming ≡ [] → read sent ≡ read (sent ++ coming)
alone read sent coming none = ap read (sym (append-nil sent) ∙ ap (λ more. sent ++ more) (sym none))

-- On an ordinary pair each turn adds the frames that it accepts to those of the lane's entries, or begins a session.
pub begun_kept : (plan : Plan) (lane : LaneName) (s : Sight) (made : Answered) (news : News) (t : Sight) → IsRaw plan lane ≡ false → Turn plan lane s made news t
    → (coming : List Entry) → BegunOf s coming → BegunNext news s t coming
begun_kept plan lane s made news t no_raw (Trains may) coming h = record { after = []; begun = record { to_come = inl refl; told_is = refl; whole = refl }; grows = Anew refl refl }
begun_kept plan lane s made news t no_raw (Breaks may) coming h = record { after = coming; begun = begun_down h; grows = same_frames refl }
begun_kept plan lane s made news t no_raw (Drops may) coming h = record { after = coming; begun = begun_down h; grows = same_frames refl }
begun_kept plan lane s made news t no_raw (Forgets Sender may) coming h = record {
  after = coming;
  begun = record { to_come = inr (refl, down-not_up s.state may.down); told_is = h.told_is; whole = h.whole };
  grows = same_frames refl;
}
begun_kept plan lane s made news t no_raw (Begins bytes first others may cut) coming h =
    let none = none_comes may.up may.none_waiting h in
    let one : OneFrame s.lane.told [] (first ∷ others) bytes =
    subst (λ pieces. OneFrame s.lane.told [] pieces bytes) cut
    (pieces_one_frame (SizesOf plan lane).largest bytes s.lane.told (no_byte_fits (pair_plan plan lane.pair) (SizesOf plan lane).entries (SizesOf plan lane).largest (length bytes) may.fits)) in
    let behind = frame_behind s.lane.sent (first ∷ others) s.lane.told bytes (alone (number_after 0) s.lane.sent coming none ∙ h.told_is) (alone (rest_after []) s.lane.sent coming none ∙ h.whole) one in
    record {
      after = others;
      begun = begun_with s.lane.sent first others (is_up s.state) (s.lane.told + 1) behind.number behind.rest;
      grows = GoOn (ap (frames_from 0 []) (one_begun s.lane.sent first others) ∙ behind.frames
          ∙ ap (λ frames. frames ++ record { number = s.lane.told; bytes = bytes } ∷ []) (alone (frames_from 0 []) s.lane.sent coming none));
    }
begun_kept plan lane s made news t no_raw (Closes may) coming h =
    let none = none_comes may.up may.none_waiting h in
    record {
      after = [];
      begun = begun_with s.lane.sent GoesDown [] (is_up s.state) s.lane.told
          (number-append 0 s.lane.sent (GoesDown ∷ []) ∙ alone (number_after 0) s.lane.sent coming none ∙ h.told_is)
          (rest-append [] s.lane.sent (GoesDown ∷ []) ∙ alone (rest_after []) s.lane.sent coming none ∙ h.whole);
      grows = same_frames (ap (frames_from 0 []) (one_begun s.lane.sent GoesDown []) ∙ frames-append 0 [] s.lane.sent (GoesDown ∷ []) ∙ append-nil (frames_from 0 [] s.lane.sent)
          ∙ alone (frames_from 0 []) s.lane.sent coming none);
    }
begun_kept plan lane s made news t no_raw (PostsNext entry others label rest may) coming h = elim h.to_come [
  | inl e ↦
      let same : s.lane.sent ++ entry ∷ others ≡ s.lane.sent ++ coming = ap (λ more. s.lane.sent ++ more) (sym may.waits ∙ sym e) in
      record {
        after = others;
        begun = begun_with s.lane.sent entry others (is_up s.state) s.lane.told (ap (number_after 0) same ∙ h.told_is) (ap (rest_after []) same ∙ h.whole);
        grows = same_frames (ap (frames_from 0 []) (one_begun s.lane.sent entry others ∙ same));
      }
  | inr over ↦ absurd (let w = may.waits in let n = over.0 in cc)
]
begun_kept plan lane s made news t no_raw (Strays after may) coming h = absurd (both_ways (IsRaw plan lane) no_raw may.raw_pair)
begun_kept plan lane s made news t no_raw turn coming h = record { after = coming; begun = h; grows = same_frames refl }

-- What the receiver has of the frame under way

-- while it copies entry `got`, a piece: the bytes of the frame's entries before it, and of its own those of the parts
-- copied
pub record Piece (sent : List Entry) (got part len left : ℕ) (gathered : List ℕ) : Type 0 where
  pub bytes : List ℕ
  pub there : slice_index_or sent got GoesDown ≡ Carries bytes left
  pub size : length bytes ≡ len
  pub parts : gathered ≡ rest_after [] (take got sent) ++ take (chunk_size * part) bytes

-- between two entries, the bytes of those of the frame's entries that were taken
pub record Gathers (sent : List Entry) (got : ℕ) (phase : Phase) (part len left : ℕ) (gathered : List ℕ) : Type 0 where
  pub between : is_copying phase ≡ false → gathered ≡ rest_after [] (take got sent)
  pub copying : is_copying phase ≡ true → Piece sent got part len left gathered

-- once it has forgotten the session it can't go on with it
pub record Forgot (q : ℕ) (up : Bool) (joined : ℕ) (phase : Phase) : Type 0 where
  pub down : up ≡ false
  pub not_joined : has_bit joined q ≡ false
  pub not_copying : is_copying phase ≡ false

pub record Receives (q : ℕ) (up : Bool) (joined : ℕ) (sent : List Entry) (got done : ℕ) (phase : Phase) (part len left : ℕ) (gathered : List ℕ) : Type 0 where
  pub within : got ≤ length sent
  pub done_is : number_after 0 (take got sent) ≡ done
  pub has : Gathers sent got phase part len left gathered ⊎ Forgot q up joined phase

abbrev pub ReceivesOf : ℕ → Sight → Type 0
ReceivesOf q s = Receives q (is_up s.state) s.receiver.joined s.lane.sent s.lane.got s.lane.done s.lane.phase s.lane.part s.lane.len s.lane.left s.lane.gathered

-- the frames that were delivered
abbrev pub given_of : Sight → List Numbered
given_of s = frames_from 0 [] (take s.lane.got s.lane.sent)

pub record ReceivesNext (q : ℕ) (news : News) (s t : Sight) : Type 0 where
  pub receives : ReceivesOf q t
  pub grows : Grows news.delivered (given_of s) news.starts (given_of t)

-- The entry at a place stays there where entries are added at the end
there-append : (xs ys : List Entry) (n : ℕ) (bytes : List ℕ) (left : ℕ) → slice_index_or xs n GoesDown ≡ Carries bytes left → slice_index_or (xs ++ ys) n GoesDown ≡ Carries bytes left
there-append xs ys n bytes left there =
    get_or_append_left xs ys GoesDown n (carries-within xs n (record { bytes = bytes; left = left; there = there })) ∙ there

-- an entry more is begun
receives_more : {q : ℕ} {up : Bool} {joined : ℕ} {sent : List Entry} {got done : ℕ} {phase : Phase} {part len left : ℕ} {gathered : List ℕ} (entry : Entry)
    → Receives q up joined sent got done phase part len left gathered → Receives q up joined (sent ++ entry ∷ []) got done phase part len left gathered
receives_more {sent = sent} {got = got} {part = part} {left = left} entry h = record {
  within = let e = length-append sent (entry ∷ []) in let w = h.within in omega arith;
  done_is = ap (number_after 0) same ∙ h.done_is;
  has = elim h.has [
    | inl g ↦ inl (record {
      between = λ b. g.between b ∙ ap (rest_after []) (sym same);
      copying = λ c. let piece = g.copying c in record {
        bytes = piece.bytes;
        there = there-append sent (entry ∷ []) got piece.bytes left piece.there;
        size = piece.size;
        parts = piece.parts ∙ ap (λ xs. rest_after [] xs ++ take (chunk_size * part) piece.bytes) (sym same);
      };
    })
    | inr f ↦ inr f
  ];
}
  where
    same : take got (sent ++ entry ∷ []) ≡ take got sent
    same = take-append-le got sent (entry ∷ []) h.within

given_more : (sent : List Entry) (entry : Entry) (got : ℕ) → got ≤ length sent → frames_from 0 [] (take got (sent ++ entry ∷ [])) ≡ frames_from 0 [] (take got sent)
given_more sent entry got within = ap (frames_from 0 []) (take-append-le got sent (entry ∷ []) within)

-- the link isn't up
receives_down : {q : ℕ} {up : Bool} {joined : ℕ} {sent : List Entry} {got done : ℕ} {phase : Phase} {part len left : ℕ} {gathered : List ℕ}
    → Receives q up joined sent got done phase part len left gathered → Receives q false joined sent got done phase part len left gathered
receives_down h = record {
  within = h.within;
  done_is = h.done_is;
  has = elim h.has [ inl g ↦ inl g | inr f ↦ inr (record { down = refl; not_joined = f.not_joined; not_copying = f.not_copying }) ];
}

-- the receiver isn't copying, and goes on to another phase in which it doesn't
receives_at : {q : ℕ} {up : Bool} {joined : ℕ} {sent : List Entry} {got done : ℕ} {phase : Phase} {part len left : ℕ} {gathered : List ℕ} (after : Phase)
    → is_copying phase ≡ false → is_copying after ≡ false → Receives q up joined sent got done phase part len left gathered → Receives q up joined sent got done after part len left gathered
receives_at after now later h = record {
  within = h.within;
  done_is = h.done_is;
  has = elim h.has [
    | inl g ↦ inl (record { between = λ _. g.between now; copying = λ c. absurd (both_ways (is_copying after) later c) })
    | inr f ↦ inr (record { down = f.down; not_joined = f.not_joined; not_copying = later })
  ];
}

-- A receiver that is idle isn't copying.
pub idle-not_copying : (phase : Phase) → is_idle phase ≡ true → is_copying phase ≡ false
idle-not_copying Idle e = refl
idle-not_copying Copying e = absurd (false≢true e)
idle-not_copying Copied e = refl
idle-not_copying Cleared e = refl

copied-not_copying : (phase : Phase) → is_copied phase ≡ true → is_copying phase ≡ false
copied-not_copying Idle e = refl
copied-not_copying Copying e = absurd (false≢true e)
copied-not_copying Copied e = refl
copied-not_copying Cleared e = refl

cleared-not_copying : (phase : Phase) → is_cleared phase ≡ true → is_copying phase ≡ false
cleared-not_copying Idle e = refl
cleared-not_copying Copying e = absurd (false≢true e)
cleared-not_copying Copied e = refl
cleared-not_copying Cleared e = refl

-- A set of bits that is 0 has no bit.
pub empty_set : (bits q : ℕ) → bits ≡ 0 → has_bit bits q ≡ false
empty_set bits q none = elim (cases_Bool (has_bit bits q)) [ inl has ↦ absurd (no_bit bits q none has) | inr hasnt ↦ hasnt ]

-- what the receiver holds while it copies
pub piece_of_copy : {q : ℕ} {up : Bool} {joined : ℕ} {sent : List Entry} {got done : ℕ} {phase : Phase} {part len left : ℕ} {gathered : List ℕ} → is_copying phase ≡ true
    → Receives q up joined sent got done phase part len left gathered → Piece sent got part len left gathered
piece_of_copy {phase = phase} turn h = elim h.has [ inl g ↦ g.copying turn | inr f ↦ absurd (both_ways (is_copying phase) f.not_copying turn) ]

-- with one part more
part_more : {sent : List Entry} {got part len left : ℕ} {gathered : List ℕ} (copied : List ℕ) → copied ≡ chunk_of (bytes_of (slice_index_or sent got GoesDown)) part
    → Piece sent got part len left gathered → Piece sent got (part + 1) len left (gathered ++ copied)
part_more {sent} {got} {part} {len} {left} {gathered} copied is piece = record {
  bytes = piece.bytes;
  there = piece.there;
  size = piece.size;
  parts =
      ap (λ xs. xs ++ copied) piece.parts
      ∙ append_assoc (rest_after [] (take got sent)) (take (chunk_size * part) piece.bytes) copied
      ∙ ap (λ xs. rest_after [] (take got sent) ++ xs)
      (ap (λ xs. take (chunk_size * part) piece.bytes ++ xs) (is ∙ ap (λ entry. chunk_of (bytes_of entry) part) piece.there)
      ∙ sym (take-add (chunk_size * part) chunk_size piece.bytes)
      ∙ ap (λ n. take n piece.bytes) (omega arith));
}

-- with all parts the entry is taken
record Took (sent : List Entry) (got left : ℕ) (gathered : List ℕ) : Type 0 where
  bytes : List ℕ
  below : got < length sent
  next : take (got + 1) sent ≡ take got sent ++ Carries bytes left ∷ []
  is : gathered ≡ rest_after [] (take got sent) ++ bytes

all_parts : {sent : List Entry} {got part len left : ℕ} {gathered : List ℕ} → nat_lt part (chunks_in len) ≡ false → Piece sent got part len left gathered → Took sent got left gathered
all_parts {sent} {got} {part} {len} {left} {gathered} last piece =
    let below : got < length sent = carries-within sent got (record { bytes = piece.bytes; left = left; there = piece.there }) in
    record {
      bytes = piece.bytes;
      below = below;
      next = take_more sent got GoesDown below ∙ ap (λ entry. take got sent ++ entry ∷ []) piece.there;
      is = piece.parts ∙ ap (λ xs. rest_after [] (take got sent) ++ xs)
          (take_all (chunk_size * part) piece.bytes (let few = ltb-false part (chunks_in len) last in let size = piece.size in omega arith));
    }

-- then it stands between two entries
receives_between : {q : ℕ} {up : Bool} {joined : ℕ} {sent : List Entry} {got part len left : ℕ} (done : ℕ) (gathered : List ℕ) → got < length sent
    → number_after 0 (take (got + 1) sent) ≡ done → gathered ≡ rest_after [] (take (got + 1) sent) → Receives q up joined sent (got + 1) done Copied part len left gathered
receives_between done gathered below done_is is = record {
  within = omega arith;
  done_is = done_is;
  has = inl (record { between = λ _. is; copying = λ c. absurd (false≢true c) });
}

-- the entry taken has others of its frame after it, or not
module _ (n : ℕ) (rest : List ℕ) (xs : List Entry) (bytes : List ℕ) where
  some_left : (left : ℕ) → nat_lt 0 left ≡ true
      → (number_after n (xs ++ Carries bytes left ∷ []) ≡ number_after n xs) × (rest_after rest (xs ++ Carries bytes left ∷ []) ≡ rest_after rest xs ++ bytes)
      × (frames_from n rest (xs ++ Carries bytes left ∷ []) ≡ frames_from n rest xs)
  some_left zero more = absurd (false≢true more)
  some_left (suc left) more = (
    number-append n xs (Carries bytes (suc left) ∷ []),
    rest-append rest xs (Carries bytes (suc left) ∷ []),
    frames-append n rest xs (Carries bytes (suc left) ∷ []) ∙ append-nil (frames_from n rest xs),
  )

  none_left : (left : ℕ) → nat_lt 0 left ≡ false
      → (number_after n (xs ++ Carries bytes left ∷ []) ≡ number_after n xs + 1) × (rest_after rest (xs ++ Carries bytes left ∷ []) ≡ [])
      × (frames_from n rest (xs ++ Carries bytes left ∷ []) ≡ frames_from n rest xs ++ record { number = number_after n xs; bytes = rest_after rest xs ++ bytes } ∷ [])
  none_left zero last = (number-append n xs (Carries bytes zero ∷ []), rest-append rest xs (Carries bytes zero ∷ []), frames-append n rest xs (Carries bytes zero ∷ []))
  none_left (suc left) last = absurd (let none = ltb-false 0 (suc left) last in omega arith)

-- On an ordinary pair each turn adds the frames that it delivers to those of the entries taken, or begins a session.
pub receives_kept : (plan : Plan) (lane : LaneName) (s : Sight) (made : Answered) (news : News) (t : Sight) → IsRaw plan lane ≡ false → Turn plan lane s made news t
    → ReceivesOf lane.queue s → ReceivesNext lane.queue news s t
receives_kept plan lane s made news t no_raw (Trains may) h = record {
  receives = record { within = omega arith; done_is = refl; has = inl (record { between = λ _. refl; copying = λ c. absurd (false≢true c) }) };
  grows = Anew refl refl;
}
receives_kept plan lane s made news t no_raw (Breaks may) h = record { receives = receives_down h; grows = same_frames refl }
receives_kept plan lane s made news t no_raw (Drops may) h = record { receives = receives_down h; grows = same_frames refl }
receives_kept plan lane s made news t no_raw (Forgets Receiver may) h = record {
  receives = record { within = h.within; done_is = h.done_is; has = inr (record { down = down-not_up s.state may.down; not_joined = empty_set 0 lane.queue refl; not_copying = refl }) };
  grows = same_frames refl;
}
receives_kept plan lane s made news t no_raw (Joins Receiver queue may) h = record {
  receives = record { within = h.within; done_is = h.done_is; has = elim h.has [ inl g ↦ inl g | inr f ↦ absurd (both_ways (is_up s.state) f.down may.up) ] };
  grows = same_frames refl;
}
receives_kept plan lane s made news t no_raw (Begins bytes first others may cut) h = record { receives = receives_more first h; grows = same_frames (given_more s.lane.sent first s.lane.got h.within) }
receives_kept plan lane s made news t no_raw (Closes may) h = record { receives = receives_more GoesDown h; grows = same_frames (given_more s.lane.sent GoesDown s.lane.got h.within) }
receives_kept plan lane s made news t no_raw (PostsNext entry others label rest may) h = record { receives = receives_more entry h; grows = same_frames (given_more s.lane.sent entry s.lane.got h.within) }
receives_kept plan lane s made news t no_raw (Strays after may) h = absurd (both_ways (IsRaw plan lane) no_raw may.raw_pair)
receives_kept plan lane s made news t no_raw (Looks len left may) h = record {
  receives = record {
    within = h.within;
    done_is = h.done_is;
    has = elim h.has [
      | inl g ↦ let piece = may.found no_raw in inl (record {
        between = λ b. absurd (both_ways true b refl);
        copying = λ _. record { bytes = piece.bytes; there = piece.at; size = piece.size; parts = g.between (idle-not_copying s.lane.phase may.idle) ∙ sym (append-nil (rest_after [] (take s.lane.got s.lane.sent))) };
      })
      | inr f ↦ absurd (both_ways (has_bit s.receiver.joined lane.queue) f.not_joined may.joined)
    ];
  };
  grows = same_frames refl;
}
receives_kept plan lane s made news t no_raw (CopiesPart bytes may) h = record {
  receives = record {
    within = h.within;
    done_is = h.done_is;
    has = inl (record {
      between = λ b. absurd (both_ways (is_copying s.lane.phase) b may.turn);
      copying = λ _. part_more bytes (may.are no_raw) (piece_of_copy may.turn h);
    });
  };
  grows = same_frames refl;
}
receives_kept plan lane s made news t no_raw (CopiesEntry bytes may) h =
    let took = all_parts may.copy.more (part_more bytes (may.copy.are no_raw) (piece_of_copy may.copy.turn h)) in
    let more = some_left 0 [] (take s.lane.got s.lane.sent) took.bytes s.lane.left may.left in
    record {
      receives = receives_between _ _ took.below (ap (number_after 0) took.next ∙ more.0 ∙ h.done_is) (took.is ∙ sym more.1 ∙ ap (rest_after []) (sym took.next));
      grows = same_frames (ap (frames_from 0 []) took.next ∙ more.2);
    }
receives_kept plan lane s made news t no_raw (CopiesLast bytes may) h =
    let took = all_parts may.copy.more (part_more bytes (may.copy.are no_raw) (piece_of_copy may.copy.turn h)) in
    let whole = none_left 0 [] (take s.lane.got s.lane.sent) took.bytes s.lane.left may.left in
    record {
      receives = receives_between _ _ took.below (ap (number_after 0) took.next ∙ whole.0 ∙ ap (λ n. n + 1) h.done_is) (sym whole.1 ∙ ap (rest_after []) (sym took.next));
      grows = GoOn (ap (frames_from 0 []) took.next ∙ whole.2
          ∙ ap (λ n. given_of s ++ record { number = n; bytes = rest_after [] (take s.lane.got s.lane.sent) ++ took.bytes } ∷ []) h.done_is
          ∙ ap (λ b. given_of s ++ record { number = s.lane.done; bytes = b } ∷ []) (sym took.is));
    }
receives_kept plan lane s made news t no_raw (Clears may) h = record { receives = receives_at Cleared (copied-not_copying s.lane.phase may.turn) refl h; grows = same_frames refl }
receives_kept plan lane s made news t no_raw (Acks may) h = record { receives = receives_at Idle (cleared-not_copying s.lane.phase may.turn) refl h; grows = same_frames refl }
receives_kept plan lane s made news t no_raw turn h = record { receives = h; grows = same_frames refl }

-- What the log has of a session of the lane

-- what was accepted and delivered in a session is in order
pub record Ordered (taken given : List Numbered) : Type 0 where
  pub prefix : BeginsList given taken
  pub numbers : NumberedFrom 0 taken

-- `begun` and `got` being the frames of the session that goes on
pub record Lists (session now : ℕ) (begun got taken given : List Numbered) : Type 0 where
  pub past : session < now → Ordered taken given
  pub current : now ≡ session → (taken ≡ begun) × (given ≡ got)
  pub later : now < session → (taken ≡ []) × (given ≡ [])

-- what was delivered begins what was accepted
in_order : (s : Sight) (coming : List Entry) → s.lane.got ≤ length s.lane.sent → Ordered (taken_of s coming) (given_of s)
in_order s coming within = record {
  prefix = subst (λ xs. BeginsList (frames_from 0 [] xs) (taken_of s coming)) (take-append-le s.lane.got s.lane.sent coming within) (frames-begin s.lane.got (s.lane.sent ++ coming));
  numbers = frames-numbered 0 [] (s.lane.sent ++ coming);
}

current_ordered : {begun got : List Numbered} (taken given : List Numbered) → Ordered begun got → (taken ≡ begun) × (given ≡ got) → Ordered taken given
current_ordered taken given order now = rw (now.0, now.1) order

lists_ordered : (session now : ℕ) (begun got taken given : List Numbered) → Ordered begun got → Lists session now begun got taken given → Ordered taken given
lists_ordered session now begun got taken given order lists = elim (cases_order session now) [
  | inl e ↦ current_ordered taken given order (lists.current (sym e))
  | inr o ↦ elim o [
    | inl past ↦ lists.past past
    | inr later ↦ let none = lists.later later in rw (none.0, none.1) (record { prefix = ([], refl); numbers = tt })
  ]
]

lists_kept : (session now : ℕ) (starts : Bool) (begun got accepts delivers begun_after got_after taken given : List Numbered)
    → Grows accepts begun starts begun_after → Grows delivers got starts got_after → Ordered begun got → (now ≡ session) ⊎ (now ≡ session → ⊥) → Lists session now begun got taken given
    → Lists session (if starts then now + 1 else now) begun_after got_after (taken ++ added session now accepts) (given ++ added session now delivers)
lists_kept session now starts begun got accepts delivers begun_after got_after taken given (Anew a no_more) (Anew d none_got) order c lists =
    of_lists (Lists session (now + 1) begun_after got_after) (added-none (now == session) taken _ a) (added-none (now == session) given _ d) (record {
      past = λ h. elim (cases_order session now) [
        | inl e ↦ current_ordered taken given order (lists.current (sym e))
        | inr o ↦ elim o [ inl past ↦ lists.past past | inr later ↦ absurd (omega arith) ]
      ];
      current = λ h. let none = lists.later (omega arith) in (none.0 ∙ sym no_more, none.1 ∙ sym none_got);
      later = λ h. lists.later (omega arith);
    })
lists_kept session now starts begun got accepts delivers begun_after got_after taken given (GoOn a) (GoOn d) order (inl is) lists =
    of_lists (Lists session now begun_after got_after) (added-now session now taken _ _ is refl) (added-now session now given _ _ is refl) (record {
      past = λ h. absurd (omega arith);
      current = λ h. (ap (λ xs. xs ++ accepts) (lists.current is).0 ∙ sym a, ap (λ xs. xs ++ delivers) (lists.current is).1 ∙ sym d);
      later = λ h. absurd (omega arith);
    })
lists_kept session now starts begun got accepts delivers begun_after got_after taken given (GoOn a) (GoOn d) order (inr isnt) lists =
    of_lists (Lists session now begun_after got_after) (added-elsewhere session now taken _ isnt) (added-elsewhere session now given _ isnt)
    (record { past = lists.past; current = λ h. absurd (isnt h); later = lists.later })

-- The laws

-- what holds of a lane and a session after each log
pub record LaneRun (plan : Plan) (lane : LaneName) (session : ℕ) (log : List Answered) (s : Sight) : Type 0 where
  pub now : session_at lane.pair (first_session plan lane.pair) log ≡ s.session
  pub coming : List Entry
  pub begun : BegunOf s coming
  pub receives : ReceivesOf lane.queue s
  pub lists : Lists session s.session (taken_of s coming) (given_of s) (accepted plan log lane session) (delivered plan log lane session)

run_kept : (plan : Plan) (lane : LaneName) (session : ℕ) → IsRaw plan lane ≡ false → (log : List Answered) (s : Sight) (made : Answered) (news : News) (t : Sight) → Tells plan lane s.lane made news
    → Turn plan lane s made news t → LaneRun plan lane session log s → LaneRun plan lane session (log ++ made ∷ []) t
run_kept plan lane session no_raw log s made news t tells turn run = record {
  now = now_kept plan lane log s made news t tells turn run.now;
  coming = sending.after;
  begun = sending.begun;
  receives = receiving.receives;
  lists =
      of_lists Next (more_found plan lane session log made s.session run.now (accepts plan lane) ∙ ap (λ xs. accepted plan log lane session ++ added session s.session xs) tells.accepted)
      (more_found plan lane session log made s.session run.now (delivers lane) ∙ ap (λ xs. delivered plan log lane session ++ added session s.session xs) tells.delivered)
      (subst (λ n. Lists session n (taken_of t sending.after) (given_of t) (accepted plan log lane session ++ added session s.session news.accepted) (delivered plan log lane session ++ added session s.session news.delivered))
      (ap (λ b. if b then s.session + 1 else s.session) (sym tells.starts) ∙ session_kept plan lane s made news t tells turn)
      (lists_kept session s.session news.starts _ _ _ _ _ _ _ _ sending.grows receiving.grows (in_order s run.coming run.receives.within) (cases_eq s.session session) run.lists));
}
  where
    sending : BegunNext news s t run.coming
    sending = begun_kept plan lane s made news t no_raw turn run.coming run.begun

    receiving : ReceivesNext lane.queue news s t
    receiving = receives_kept plan lane s made news t no_raw turn run.receives

    Next : List Numbered → List Numbered → Type 0
    Next taken given = Lists session t.session (taken_of t sending.after) (given_of t) taken given

run_fresh : (plan : Plan) (lane : LaneName) (session : ℕ) → LaneRun plan lane session [] (sight lane.from lane.queue (fresh_pair (pair_plan plan lane.pair)))
run_fresh plan lane session =
    subst (λ (l : LanePart). LaneRun plan lane session [] (record (sight lane.from lane.queue (fresh_pair (pair_plan plan lane.pair))) { lane = l })) (sym (fresh-lane (pair_plan plan lane.pair) lane.from lane.queue))
    (record {
      now = fresh_now (pair_plan plan lane.pair).up (pair_plan plan lane.pair) refl;
      coming = [];
      begun = record { to_come = inl refl; told_is = refl; whole = refl };
      receives = record { within = omega arith; done_is = refl; has = inl (record { between = λ _. refl; copying = λ c. absurd (false≢true c) }) };
      lists = record { past = λ _. record { prefix = ([], refl); numbers = tt }; current = λ _. (refl, refl); later = λ _. (refl, refl) };
    })

-- On an ordinary pair the log's frames of a session are those of the lane's entries, at the start and by each turn.
pub lane_runs : (plan : Plan) (lane : LaneName) (session : ℕ) → IsRaw plan lane ≡ false → HoldsAlways plan lane (LaneRun plan lane session)
lane_runs plan lane session no_raw = record { fresh = run_fresh plan lane session; turns = run_kept plan lane session no_raw }

-- On an ordinary pair a lane delivers in each session a prefix of what it accepted there, both numbered from 0 on.
pub every_log_is_in_order : EveryLogIsInOrder
every_log_is_in_order plan memories steps lane session no_raw =
    let run = always_after plan lane (LaneRun plan lane session) (lane_runs plan lane session no_raw) memories steps in
    let log = log_of plan memories steps in
    let s = sight lane.from lane.queue (ledger_of plan memories steps lane.pair) in
    let ordered = lists_ordered session s.session (taken_of s run.coming) (given_of s) (accepted plan log lane session) (delivered plan log lane session) (in_order s run.coming run.receives.within) run.lists in
    record {
      prefix = ordered.prefix;
      accepted_numbers = ordered.numbers;
      delivered_numbers = numbered-begin 0 (delivered plan log lane session) (accepted plan log lane session) ordered.prefix ordered.numbers;
    }

-- On an ordinary pair no frame number is delivered twice on a lane in a session.
pub every_frame_comes_once : EveryFrameComesOnce
every_frame_comes_once plan memories steps lane session n no_raw =
    times-once n 0 (delivered plan (log_of plan memories steps) lane session) (every_log_is_in_order plan memories steps lane session no_raw).delivered_numbers
