-- What can follow tokens, by what is known of them.
use Rattle.std.proofs.Common.{◌≡◌, ℕ, zero, suc, ◌+◌, ◌<◌, ◌≤◌, Bool, true, false, ◌↔◌, IsTrue, List, [], ◌∷◌, ◌++◌, None, Some, length, map, take, drop, get_or, sym, ap, subst, refl, ◌∙◌, arith}
use Rattle.std.proofs.Common.{append_assoc, Option, Result, Ok, Err, IfOk, ◌-◌}
use Rattle.std.specs.List.{AllByRecursion}
use Rattle.std.proofs.lemmas.List.{take_all, take_more, take-append-drop, append-nil, length-take-le, length-drop}
use Rattle.nss_lexer.specs.declared.token.Token.{Token}
use Rattle.nss_tree.specs.Source.{SourceTree}
use Rattle.nss_symbols.specs.declared.symbol.Seen.{Seen}
use Rattle.nss_symbols.specs.Cursor.{plain_symbol, IsSound, AreSound}
use Rattle.nss_symbols.specs.Symbols.{Symbol}
use Rattle.nss_symbols.specs.Nest.{IsWithinNest, IsFirstOver, IsWalkOver, StaysWithin, Walk}
use Rattle.nss_symbols.specs.Tokens.{symbol_of, symbols_of}
use Rattle.nss_parser.specs.Front.{AreItems, TellsPrefix}
use Rattle.nss_parser.specs.Sentence.{Parses, IsPrefix, IsPlace}
use Rattle.message_tokens.specs.Following.{CanGoOn, CanFollow, HasNoPlace, Lists, none, can, cannot, Adds, added, passed}
use Rattle.message_tokens.specs.Behind.{IsBehind, TellsFollowing, AddsBehind, ListsBehind}

pub all_taken : {A : Type 0} (P : A → Type 0) (n : ℕ) (xs : List A) → AllByRecursion P xs → AllByRecursion P (take n xs)
all_taken P zero xs h = tt
all_taken P (suc n) [] h = tt
all_taken P (suc n) (x ∷ xs) h = (h.0, all_taken P n xs h.1)

-- ---- what is known of tokens with one more behind them

pub as_many : {A B : Type 0} (f : A → B) (xs : List A) → length (map f xs) ≡ length xs
as_many f [] = refl
as_many f (x ∷ xs) = let more = as_many f xs in omega (arith, more)

map_append : {A B : Type 0} (f : A → B) (xs ys : List A) → map f (xs ++ ys) ≡ map f xs ++ map f ys
map_append f [] ys = refl
map_append f (x ∷ xs) ys = ap (λ r. f x ∷ r) (map_append f xs ys)

pub map_drop : {A B : Type 0} (f : A → B) (n : ℕ) (xs : List A) → map f (drop n xs) ≡ drop n (map f xs)
map_drop f zero xs = refl
map_drop f (suc n) [] = refl
map_drop f (suc n) (x ∷ xs) = map_drop f n xs

pub sound_push : (xs : List Seen) (s : Seen) → AreSound xs → IsSound s → AreSound (xs ++ s ∷ [])
sound_push [] s all one = (one, tt)
sound_push (x ∷ xs) s all one = (all.0, sound_push xs s all.1 one)

pub sound_drop : (n : ℕ) (xs : List Seen) → AreSound xs → AreSound (drop n xs)
sound_drop zero xs all = all
sound_drop (suc n) [] all = tt
sound_drop (suc n) (x ∷ xs) all = sound_drop n xs all.1

-- the token nests too deep behind them
pub too_deep : (walk : Walk) (count : ℕ) (rest : List Symbol) (next : Symbol) (b : Bool) → (IsTrue b ↔ StaysWithin walk (next ∷ [])) → b ≡ false
    → TellsFollowing walk count rest next false
too_deep walk count rest next b stays is before known =
    ((λ yes. let none : ⊥ = cc in absurd none), (λ h. let yes = stays.1 ((known.walked (next ∷ [])).0 h.nest) in let none : ⊥ = cc in absurd none))

-- it doesn't, so the grammar alone decides
pub by_grammar : (walk : Walk) (count : ℕ) (rest : List Symbol) (next : Symbol) (b able : Bool) → (IsTrue b ↔ StaysWithin walk (next ∷ [])) → b ≡ true
    → TellsPrefix count (rest ++ next ∷ []) able → TellsFollowing walk count rest next able
by_grammar walk count rest next b able stays is tells before known =
    let told = tells known.front known.items known.many in
    let alike = known.alike (next ∷ []) in (
      (λ yes. record { prefix = alike.1 (told.0 yes); nest = (known.walked (next ∷ [])).1 (stays.0 (let t : IsTrue b = is in t)) }),
      (λ h. told.1 (alike.0 h.prefix)),
    )

pub grammar_tells : (walk : Walk) (count : ℕ) (rest all : List Seen) (next : Seen) (b able : Bool) → (IsTrue b ↔ StaysWithin walk (plain_symbol next ∷ [])) → b ≡ true
    → all ≡ rest ++ next ∷ [] → TellsPrefix count (map plain_symbol all) able → TellsFollowing walk count (map plain_symbol rest) (plain_symbol next) able
grammar_tells walk count rest all next b able stays is same tells =
    by_grammar walk count (map plain_symbol rest) (plain_symbol next) b able stays is
    (subst (λ ts. TellsPrefix count ts able) (ap (map plain_symbol) same ∙ map_append plain_symbol rest (next ∷ [])) tells)

with_token : (before : List Token) (t : Token) → symbols_of (before ++ t ∷ []) ≡ symbols_of before ++ symbol_of t ∷ []
with_token before t = map_append symbol_of before (t ∷ [])

follows_as : (before : List Token) (t : Token) (able : Bool) → (IsTrue able ↔ CanGoOn (symbols_of before ++ symbol_of t ∷ [])) → IsTrue able ↔ CanFollow before t
follows_as before t able h = subst (λ ts. IsTrue able ↔ CanGoOn ts) (sym (with_token before t)) h

-- nothing follows tokens that nest too deep whatever follows
none_behind : (before done rest : List Token) → ((t : Token) → CanFollow before t → ⊥) → Lists before done [] → Lists before (done ++ rest) []
none_behind before done [] stops so = subst (λ ts. Lists before ts []) (sym (append-nil done)) so
none_behind before done (t ∷ ts) stops so =
    subst (λ all. Lists before all []) (append_assoc done (t ∷ []) ts) (none_behind before (done ++ t ∷ []) ts stops (cannot done [] t so (stops t)))

pub none_listed : (before tried : List Token) (all : List Symbol) → all ≡ symbols_of before → IsWalkOver all None → Lists before tried []
none_listed before tried all same deep =
    none_behind before [] tried (λ t h. deep (symbol_of t ∷ []) (subst IsWithinNest (with_token before t ∙ ap (λ ts. ts ++ symbol_of t ∷ []) (sym same)) h.nest)) none

-- tokens behind whole items go on as they are
same_alike : (before front rest : List Symbol) → before ≡ front ++ rest → (more : List Symbol) → IsPrefix (before ++ more) ↔ IsPrefix (front ++ (rest ++ more))
same_alike before front rest is more =
    let whole : before ++ more ≡ front ++ (rest ++ more) = ap (λ l. l ++ more) is ∙ append_assoc front rest more in
    ((λ h. subst IsPrefix whole h), (λ h. subst IsPrefix (sym whole) h))

-- what is known of all tokens before the place
pub known_behind : (walk : Walk) (count : ℕ) (tokens : List Symbol) → IsWalkOver tokens (Some walk) → count ≤ length tokens → AreItems (take count tokens)
    → IsBehind walk count (drop count tokens) tokens
known_behind walk count tokens walked within items = record {
  walked = walked;
  front = take count tokens;
  items = items;
  many = length-take-le count tokens within;
  alike = same_alike tokens (take count tokens) (drop count tokens) (sym (take-append-drop count tokens));
}

-- the same of what code holds
pub behind_items : (walk : Walk) (count : ℕ) (seen rest : List Seen) (tokens : List Token) → rest ≡ take (length seen - count) (drop count seen)
    → symbols_of tokens ≡ map plain_symbol seen → IsWalkOver (map plain_symbol seen) (Some walk) → count ≤ length seen → AreItems (take count (map plain_symbol seen))
    → IsBehind walk count (map plain_symbol rest) (symbols_of tokens)
behind_items walk count seen rest tokens e same walked within items =
    let many = as_many plain_symbol seen in
    let left = length-drop count seen in
    let all : rest ≡ drop count seen = e ∙ take_all (length seen - count) (drop count seen) (omega (arith, left)) in
    let shown : map plain_symbol rest ≡ drop count (map plain_symbol seen) = ap (map plain_symbol) all ∙ map_drop plain_symbol count seen in
    subst (λ l. IsBehind walk count l (symbols_of tokens)) (sym shown)
    (subst (λ l. IsBehind walk count (drop count (map plain_symbol seen)) l) (sym same)
    (known_behind walk count (map plain_symbol seen) walked (omega (arith, many, within)) items))

pub rest_sound : (count : ℕ) (seen three : List Seen) → three ≡ seen → AreSound seen → AreSound (take (length three - count) (drop count three))
rest_sound count seen three e sound =
    let many = length-drop count three in
    let rest : take (length three - count) (drop count three) ≡ drop count seen =
    take_all (length three - count) (drop count three) (omega (arith, many)) ∙ ap (drop count) e in
    subst AreSound (sym rest) (sound_drop count seen sound)

pub sound_take : (n : ℕ) (xs : List Seen) → AreSound xs → AreSound (take n xs)
sound_take zero xs all = tt
sound_take (suc n) [] all = tt
sound_take (suc n) (x ∷ xs) all = (all.0, sound_take n xs all.1)

-- what is known where code holds the tokens once more
pub walked_again : (walk : Walk) (seen one two : List Seen) (tokens : List Token) (o : Option Walk) → one ≡ seen → two ≡ seen → map plain_symbol seen ≡ symbols_of tokens
    → IsWalkOver (map plain_symbol one) o → o ≡ Some walk → (symbols_of tokens ≡ map plain_symbol two) × IsWalkOver (map plain_symbol two) (Some walk)
walked_again walk seen one two tokens o e1 e2 same walked is =
    (sym same ∙ ap (map plain_symbol) (sym e2), subst (λ l. IsWalkOver (map plain_symbol l) (Some walk)) (e1 ∙ sym e2) (subst (λ p. IsWalkOver (map plain_symbol one) p) is walked))

pub as_many_seen : (seen : List Seen) (tokens : List Token) → map plain_symbol seen ≡ symbols_of tokens → length seen ≡ length tokens
as_many_seen seen tokens e = sym (as_many plain_symbol seen) ∙ ap length e ∙ as_many symbol_of tokens

pub none_walked : (before tried listed : List Token) (seen one : List Seen) (o : Option Walk) → one ≡ seen → map plain_symbol seen ≡ symbols_of before
    → IsWalkOver (map plain_symbol one) o → o ≡ None → listed ≡ [] → Lists before tried listed
none_walked before tried listed seen one o e same walked is empty =
    subst (λ l. Lists before tried l) (sym empty)
    (none_listed before tried (map plain_symbol one) (ap (map plain_symbol) e ∙ same) (subst (λ p. IsWalkOver (map plain_symbol one) p) is walked))

pub if_ok_map : {A E : Type 0} (r : Result A E) (P Q : A → Type 0) → ((x : A) → P x → Q x) → IfOk r P → IfOk r Q
if_ok_map (Ok x) P Q h p = h x p
if_ok_map (Err e) P Q h p = tt

-- a place lies among the tokens
pub place_within : (tokens : List Token) (i : ℕ) → IsPlace (symbols_of tokens) i → i ≤ length tokens
place_within tokens i place = let many = as_many symbol_of tokens in let within = place.within in omega (arith, many, within)

-- tokens with a tree have no place, and for tokens that nest too deep none is told
pub tree_no_place : (tokens : List Symbol) (x : SourceTree) → Parses tokens x → HasNoPlace tokens
tree_no_place tokens x parses nest i place = place.none x parses

pub deep_no_place : (tokens : List Symbol) (k : ℕ) → IsFirstOver tokens k → HasNoPlace tokens
deep_no_place tokens k over nest i place = let low = nest k in let high = over.over in omega arith

-- ---- one more of the tokens that are tried

pub adds_it : (walk : Walk) (count : ℕ) (rest : List Symbol) (old now : List Token) (t : Token) (b : Bool) → TellsFollowing walk count rest (symbol_of t) b → b ≡ true
    → now ≡ old ++ t ∷ [] → AddsBehind walk count rest t old now
adds_it walk count rest old now t b tells is same before known =
    let test = follows_as before t b (tells (symbols_of before) known) in
    subst (λ ts. Adds before t old ts) (sym same) (added (test.0 is))

pub adds_none : (walk : Walk) (count : ℕ) (rest : List Symbol) (old now : List Token) (t : Token) (b : Bool) → TellsFollowing walk count rest (symbol_of t) b → b ≡ false
    → now ≡ old → AddsBehind walk count rest t old now
adds_none walk count rest old now t b tells is same before known =
    let test = follows_as before t b (tells (symbols_of before) known) in
    subst (λ ts. Adds before t old ts) (sym same) (passed (λ h. let yes = test.1 h in let none : ⊥ = cc in none))

more_by : (before all old : List Token) (t : Token) (now : List Token) → Lists before all old → Adds before t old now → Lists before (all ++ t ∷ []) now
more_by before all old t now so (added follows) = can all old t so follows
more_by before all old t now so (passed stops) = cannot all old t so stops

pub none_tried : (walk : Walk) (count : ℕ) (rest : List Symbol) (listed : List Token) → listed ≡ [] → ListsBehind walk count rest [] listed
none_tried walk count rest listed e before known = subst (λ ts. Lists before [] ts) (sym e) none

pub one_more : (walk : Walk) (count : ℕ) (rest : List Symbol) (tried old now : List Token) (i : ℕ) (d : Token) → i < length tried → ListsBehind walk count rest (take i tried) old
    → AddsBehind walk count rest (get_or tried i d) old now → ListsBehind walk count rest (take (i + 1) tried) now
one_more walk count rest tried old now i d inside so adds before known =
    subst (λ ts. Lists before ts now) (sym (take_more tried i d inside)) (more_by before (take i tried) old (get_or tried i d) now (so before known) (adds before known))

pub all_tried : (walk : Walk) (count : ℕ) (rest : List Symbol) (tried listed : List Token) (i : ℕ) → length tried ≤ i → ListsBehind walk count rest (take i tried) listed →
    ListsBehind walk count rest tried listed
all_tried walk count rest tried listed i past so = subst (λ ts. ListsBehind walk count rest ts listed) (take_all i tried past) so
