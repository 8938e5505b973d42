-- What a line among the declarations gives fits.
use Rattle.std.proofs.Common.{◌≡◌, ℕ, ◌≤◌, Bool, true, false, not, ◌&&◌, Err, List, [], ◌∷◌, ◌++◌, length, codes, nat_le, nat_lt, cond, refl, arith}
use Rattle.std.proofs.lemmas.Bool.{and_parts, leb-true, ltb-false, not-false}
use Rattle.std.specs.List.{AllPairs, list_any, list_all}
use Rattle.std.specs.Str.{bytes_eq}
use Rattle.step_kinds.specs.Limits.{most_hosts, most_pairs, most_devices, most_switches, most_threshold, least_ports, most_ports, IsPorts}
use Rattle.pair_model.specs.Plans.{ports_in}
use Rattle.pair_settings.specs.Settings.{same_setting, range_of, in_range, goes_together, pair_with}
use Rattle.pair_settings.specs.declared.settings.Setting.{Setting}
use Rattle.script_words.specs.Before.{Before, Given, Host, APair, ADevice, AClass, ASwitch, StepsBegin, TrafficBegins, pair_names, dev_names, switch_names}
use Rattle.script_words.specs.Declarations.{host_line, pair_line, dev_line, class_line, switch_line, host_words, pair_words, dev_words, class_words, switch_words, is_ports, lone_word, declaration_line, host_word, threshold_of, threshold_word, sits_on, is_queue}
use Rattle.script_words.specs.Ports.{on_one_host}
use Rattle.script_words.specs.Settings.{settings_from, with_setting, setting_word, option_place}
use Rattle.script_words.specs.Tests.{found_or, fault_at, unknown_line, whole, at}
use Rattle.script_words.specs.Words.{number_word, behind}
use Rattle.script_words.specs.declared.fault.Cause.TheVariants.{UnknownWord, Repeated, BadGeometry, BadSwitch, TooMany}
use Rattle.script_words.specs.declared.parts.Part.TheVariants.{Declarations}
use Rattle.script_text.proofs.Fits.{Fits}
use Rattle.script_text.proofs.Gives.{Gives, gives_ok, gives_fault, gives_then, gives_passed, gives_any, gives_at, gives_within, gives_if}
use Rattle.script_text.proofs.PairFits.{pair_fits}
use Rattle.script_text.proofs.PortFacts.{all_ports, no_ports}
use Rattle.script_text.proofs.WordFacts.{below, queue_declared, name_is_new, number_ranged, bytes_counted}

-- The options of a pair are in their ranges

all_and_one : (test : Setting → Bool) (settings : List Setting) (setting : Setting) → list_all test settings ≡ true → test setting ≡ true → list_all test (settings ++ setting ∷ []) ≡ true
all_and_one test [] setting all h = rw h refl
all_and_one test (first ∷ settings) setting all h = by (test first) all (all_and_one test settings setting)
  where
    by : (t : Bool) → (t && list_all test settings) ≡ true → (list_all test settings ≡ true → test setting ≡ true → list_all test (settings ++ setting ∷ []) ≡ true)
        → (t && list_all test (settings ++ setting ∷ [])) ≡ true
    by true e rest = rest e h
    by false e rest = cc e

setting_in_range : (settings : List Setting) (word : List ℕ) → list_all in_range settings ≡ true → Gives (λ more. list_all in_range more ≡ true) (with_setting settings word)
setting_in_range settings word all =
    gives_then _ _ _ (gives_any (at (option_place settings) (setting_word word))) (λ setting _.
    gives_then _ _ _ (gives_passed (list_any (same_setting setting) settings) (fault_at (option_place settings) Repeated)) (λ _ _.
    gives_then _ _ _ (gives_passed (not (in_range setting)) (record { word = option_place settings; cause = BadGeometry; range = range_of setting })) (λ _ e.
    gives_ok _ (settings ++ setting ∷ []) (all_and_one in_range settings setting all (not-false (in_range setting) e)))))

settings_in_range : (settings : List Setting) (words : List (List ℕ)) → list_all in_range settings ≡ true → Gives (λ more. list_all in_range more ≡ true) (settings_from settings words)
settings_in_range settings [] all = gives_ok _ settings all
settings_in_range settings (word ∷ words) all = gives_then _ _ _ (setting_in_range settings word all) (λ more in_it. settings_in_range more words in_it)

small_threshold : (digits : List ℕ) → Gives (λ k. k ≤ most_threshold) (threshold_of digits)
small_threshold digits =
    gives_then _ _ _ (gives_any (number_word digits)) (λ number _.
    gives_then _ _ _ (gives_passed (nat_lt most_threshold number) BadGeometry) (λ _ e. gives_ok _ number (ltb-false most_threshold number e)))

threshold_within : (n : ℕ) (key word : List ℕ) → Gives (λ k. k ≤ most_threshold) (threshold_word n key word)
threshold_within n key word =
    gives_then _ _ _ (gives_any (at n (found_or (behind key word) UnknownWord))) (λ digits _. gives_within _ n 0 most_threshold _ (small_threshold digits))

some_ports : (ports : ℕ) → is_ports ports ≡ true → IsPorts ports
some_ports ports e = let parts = and_parts (nat_le least_ports ports) (nat_le ports most_ports) e in (leb-true least_ports ports parts.0, leb-true ports most_ports parts.1)

module _ (before : Before) (part : before.part ≡ Declarations) (apart : AllPairs (λ one other. one ≡ other → ⊥) (ports_in before.plan.switches)) where
  host_fits : (word : List ℕ) → Gives (Fits before) (host_line before word)
  host_fits word =
      gives_then _ _ _ (gives_at _ 2 _ (name_is_new before.hosts word)) (λ name is_new.
      gives_then _ _ _ (gives_passed (not (nat_lt (length before.hosts) most_hosts)) (whole TooMany)) (λ _ e.
      gives_ok (Fits before) (Host name) (record { is_new = is_new; few = below (length before.hosts) most_hosts e })))

  pair_line_fits : (word host_a host_b : List ℕ) (options : List (List ℕ)) → Gives (Fits before) (pair_line before word host_a host_b options)
  pair_line_fits word host_a host_b options =
      gives_then _ _ _ (gives_at _ 2 _ (name_is_new (pair_names before) word)) (λ name is_new.
      gives_then _ _ _ (gives_any (at 3 (host_word before host_a))) (λ a _.
      gives_then _ _ _ (gives_any (at 4 (host_word before host_b))) (λ b _.
      gives_then _ _ _ (settings_in_range [] options refl) (λ settings all.
      gives_then _ _ _ (gives_passed (bytes_eq a b) (whole Repeated)) (λ _ _.
      gives_then _ _ _ (gives_passed (not (goes_together (pair_with name settings))) (whole BadGeometry)) (λ _ together.
      gives_then _ _ _ (gives_passed (not (nat_lt (length before.plan.pairs) most_pairs)) (whole TooMany)) (λ _ e.
      gives_ok (Fits before) (APair (pair_with name settings) (record { a = a; b = b })) (record {
        part = part;
        is_new = is_new;
        few = below (length before.plan.pairs) most_pairs e;
        fits = pair_fits name settings all (not-false (goes_together (pair_with name settings)) together);
      }))))))))

  dev_line_fits : (name_text pair_text side_text queue_text address_text stop_text start_text : List ℕ)
      → Gives (Fits before) (dev_line before name_text pair_text side_text queue_text address_text stop_text start_text)
  dev_line_fits name_text pair_text side_text queue_text address_text stop_text start_text =
      gives_then _ _ _ (gives_at _ 2 _ (name_is_new (dev_names before) name_text)) (λ name is_new.
      gives_then _ _ _ (queue_declared before 3 pair_text side_text queue_text) (λ on queue.
      gives_then _ _ _ (gives_at _ 6 _ (bytes_counted 6 address_text)) (λ address six.
      gives_then _ _ _ (threshold_within 7 (codes "stop=") stop_text) (λ stop _.
      gives_then _ _ _ (threshold_within 8 (codes "start=") start_text) (λ start small.
      gives_then _ _ _ (gives_passed (list_any (sits_on on.pair on.side on.queue) before.plan.devs) (whole Repeated)) (λ _ free.
      gives_then _ _ _ (gives_passed (nat_lt start stop) (whole BadGeometry)) (λ _ order.
      gives_then _ _ _ (gives_passed (not (nat_lt (length before.plan.devs) most_devices)) (whole TooMany)) (λ _ e.
      gives_ok (Fits before) (ADevice (record { name = name; pair = on.pair; side = on.side; queue = on.queue; address = address; stop = stop; start = start })) (record {
        is_new = is_new;
        few = below (length before.plan.devs) most_devices e;
        fits = record { queue = queue; address = six; thresholds = (ltb-false start stop order, small) };
        free = free;
        part = part;
      })))))))))

  class_line_fits : (pair_text side_text queue_text class_text : List ℕ) → Gives (Fits before) (class_line before pair_text side_text queue_text class_text)
  class_line_fits pair_text side_text queue_text class_text =
      gives_then _ _ _ (queue_declared before 2 pair_text side_text queue_text) (λ name queue.
      gives_then _ _ _ (number_ranged 5 0 7 class_text) (λ class range.
      gives_then _ _ _ (gives_passed (list_any (is_queue name.pair name.side name.queue) before.classed) (whole Repeated)) (λ _ _.
      gives_ok (Fits before) (AClass name class) (record { part = part; queue = queue; small = let most = range.1 in omega arith }))))

  switch_line_fits : (name_text : List ℕ) (dev_texts : List (List ℕ)) → is_ports (length dev_texts) ≡ true → Gives (Fits before) (switch_line before name_text dev_texts)
  switch_line_fits name_text dev_texts some =
      gives_then _ _ _ (gives_at _ 2 _ (name_is_new (switch_names before) name_text)) (λ name is_new.
      gives_then _ _ _ (all_ports before [] dev_texts (no_ports before apart)) (λ ports adds.
      gives_then _ _ _ (gives_passed (not (on_one_host before ports)) (whole BadSwitch)) (λ _ _.
      gives_then _ _ _ (gives_passed (not (nat_lt (length before.plan.switches) most_switches)) (whole TooMany)) (λ _ e.
      gives_ok (Fits before) (ASwitch (record { name = name; ports = ports })) (record {
        part = part;
        is_new = is_new;
        few = below (length before.plan.switches) most_switches e;
        fits = record { ports = let many = adds.1 in let within = some_ports (length dev_texts) some in let least = within.0 in let most = within.1 in (omega arith, omega arith); declared = adds.0.declared };
        ports = adds.0;
      })))))

  lone_word_fits : (words : List (List ℕ)) (given : Given) → Fits before given → Gives (Fits before) (lone_word words given)
  lone_word_fits [] given h = gives_ok (Fits before) given h
  lone_word_fits (a ∷ words) given h = gives_fault (Fits before) unknown_line

  host_words_fit : (words : List (List ℕ)) → Gives (Fits before) (host_words before words)
  host_words_fit [] = gives_fault (Fits before) unknown_line
  host_words_fit (a ∷ []) = host_fits a
  host_words_fit (a ∷ b ∷ words) = gives_fault (Fits before) unknown_line

  pair_words_fit : (words : List (List ℕ)) → Gives (Fits before) (pair_words before words)
  pair_words_fit [] = gives_fault (Fits before) unknown_line
  pair_words_fit (a ∷ []) = gives_fault (Fits before) unknown_line
  pair_words_fit (a ∷ b ∷ []) = gives_fault (Fits before) unknown_line
  pair_words_fit (a ∷ b ∷ c ∷ options) = pair_line_fits a b c options

  dev_words_fit : (words : List (List ℕ)) → Gives (Fits before) (dev_words before words)
  dev_words_fit (a ∷ b ∷ c ∷ d ∷ e ∷ f ∷ g ∷ []) = dev_line_fits a b c d e f g
  dev_words_fit words = gives_fault (Fits before) unknown_line

  class_words_fit : (words : List (List ℕ)) → Gives (Fits before) (class_words before words)
  class_words_fit (a ∷ b ∷ c ∷ d ∷ []) = class_line_fits a b c d
  class_words_fit words = gives_fault (Fits before) unknown_line

  switch_words_fit : (words : List (List ℕ)) → Gives (Fits before) (switch_words before words)
  switch_words_fit [] = gives_fault (Fits before) unknown_line
  switch_words_fit (name ∷ devs) = by (is_ports (length devs)) (switch_line_fits name devs)
    where
      by : (some : Bool) → (some ≡ true → Gives (Fits before) (switch_line before name devs)) → Gives (Fits before) (cond some (switch_line before name devs) (Err unknown_line))
      by true line = line refl
      by false line = gives_fault (Fits before) unknown_line

  pub declaration_fits : (word : List ℕ) (words : List (List ℕ)) → Gives (Fits before) (declaration_line before word words)
  declaration_fits word words =
      gives_if _ (bytes_eq word (codes "host")) _ _ (host_words_fit words)
      (gives_if _ (bytes_eq word (codes "pair")) _ _ (pair_words_fit words)
      (gives_if _ (bytes_eq word (codes "dev")) _ _ (dev_words_fit words)
      (gives_if _ (bytes_eq word (codes "class")) _ _ (class_words_fit words)
      (gives_if _ (bytes_eq word (codes "switch")) _ _ (switch_words_fit words)
      (gives_if _ (bytes_eq word (codes "steps")) _ _ (lone_word_fits words StepsBegin tt)
      (gives_if _ (bytes_eq word (codes "traffic")) _ _ (lone_word_fits words TrafficBegins tt) (gives_fault (Fits before) unknown_line)))))))
