-- The link of a pair and its sessions. Linux `include/linux/ntb.h` has the calls that enable and disable a link and the
-- event that tells of its loss. Sessions, and the clean bit of a side, are this project's own.
use Rattle.std.specs.Prelude.{ℕ, ◌+◌, ◌==◌, Bool, true, false, not, ◌&&◌, Option, Some, None}
use Rattle.step_kinds.specs.Limits.{most_sessions}
use Rattle.step_kinds.specs.declared.names.Side.{Side}
use Rattle.pair_model.specs.Both.{Both, at_side, with_side, both_of}
use Rattle.pair_model.specs.declared.LinkState.{LinkState}
use Rattle.pair_model.specs.declared.LinkState.TheVariants.{Down, Up, Closing}
use Rattle.pair_model.specs.declared.LinkRefusal.{LinkRefusal}
use Rattle.pair_model.specs.declared.LinkRefusal.TheVariants.{NotDown, Dirty, NotEnabled, NotUp, NotClosing, SessionsSpent}

pub record Link : Type 0 where
  pub state : LinkState
  -- the number of the session, 0 before the first
  pub session : ℕ
  -- whether a side agreed to bring the link up
  pub enabled : Both Bool
  -- whether a side has forgotten the session that was lost
  pub clean : Both Bool

abbrev pub is_down : LinkState → Bool
is_down Down = true
is_down Up = false
is_down Closing = false

abbrev pub is_up : LinkState → Bool
is_up Down = false
is_up Up = true
is_up Closing = false

abbrev pub is_closing : LinkState → Bool
is_closing Down = false
is_closing Up = false
is_closing Closing = true

-- a pair's link before any step: down, or up in session 1 where the pair is declared so
abbrev pub fresh_link : Bool → Link
fresh_link true = record { state = Up; session = 1; enabled = both_of true; clean = both_of true }
fresh_link false = record { state = Down; session = 0; enabled = both_of false; clean = both_of true }

-- the first refusal of two, if there is one
abbrev pub refused_where : Bool → LinkRefusal → Option LinkRefusal → Option LinkRefusal
refused_where true refusal later = Some refusal
refused_where false refusal later = later

-- why a side may not agree to bring the link up, and the link where it does
abbrev pub enable_refusal : Link → Side → Option LinkRefusal
enable_refusal link side = refused_where (not (is_down link.state)) NotDown (refused_where (not (at_side link.clean side)) Dirty None)

abbrev pub enabled_link : Link → Side → Link
enabled_link link side = record { state = link.state; session = link.session; enabled = with_side link.enabled side true; clean = link.clean }

-- why the link may not come up, and the link in its next session where it does
abbrev pub train_refusal : Link → Option LinkRefusal
train_refusal link =
    refused_where (not (is_down link.state)) NotDown
    (refused_where (not (link.enabled.a && link.enabled.b)) NotEnabled (refused_where (link.session == most_sessions) SessionsSpent None))

abbrev pub trained_link : Link → Link
trained_link link = record { state = Up; session = link.session + 1; enabled = link.enabled; clean = link.clean }

-- why the link can't be lost, and the link that is closing where it is
abbrev pub cut_refusal : Link → Option LinkRefusal
cut_refusal link = refused_where (not (is_up link.state)) NotUp None

abbrev pub cut_link : Link → Link
cut_link link = record { state = Closing; session = link.session; enabled = link.enabled; clean = link.clean }

-- why what is in flight can't be dropped, and the link where it is: down, and both sides have the lost session still in
-- mind
abbrev pub drop_refusal : Link → Option LinkRefusal
drop_refusal link = refused_where (not (is_closing link.state)) NotClosing None

abbrev pub dropped_link : Link → Link
dropped_link link = record { state = Down; session = link.session; enabled = both_of false; clean = both_of false }

-- why a side can't forget the lost session, and the link where it does
abbrev pub clean_refusal : Link → Option LinkRefusal
clean_refusal link = refused_where (not (is_down link.state)) NotDown None

abbrev pub cleaned_link : Link → Side → Link
cleaned_link link side = record { state = link.state; session = link.session; enabled = link.enabled; clean = with_side link.clean side true }

-- the link after a step that may be refused: a refusal changes nothing
abbrev pub link_after : Option LinkRefusal → Link → Link → Link
link_after None old new = new
link_after (Some refusal) old new = old
