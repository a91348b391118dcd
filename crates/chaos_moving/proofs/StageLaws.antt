-- What a node sends and what it has next, under the relation of a move.
use Rattle.std.proofs.Common.{◌≡◌, refl, ℕ, ◌+◌, ◌<◌, ◌≤◌, List, length, map, ap, sym, ◌∙◌, subst, arith}
use Rattle.std.specs.Prelude.{ℤ, All, IfSome, IsSomeAnd, Option, None}
use Rattle.std.proofs.lemmas.List.Elements.{All-map}
use Rattle.std.proofs.lemmas.List.FromFn.{get_or-range_with_len, length-range_with_len}
use Rattle.fd_words.specs.Lists.{list_at}
use Rattle.fd_words.specs.declared.place.Place.{Place}
use Rattle.fd_program.specs.Layouts.{Scene, owners_by_map}
use Rattle.chaos_dist.specs.Counting.{up_to}
use Rattle.chaos_dist.specs.LayoutLaws.{owner_of-below}
use Rattle.chaos_dist.specs.Layout.{owner_of}
use Rattle.chaos_dist.specs.Owners.{regular_owners, elements_on}
use Rattle.chaos_dist.specs.OwnersLaws.{length-regular_owners}
use Rattle.chaos_dist.specs.declared.shape.Shape.{Shape}
use Rattle.plan_run.specs.Held.{place_in, IsPageOf, HasPage}
use Rattle.chaos_table.specs.Laws.{CoversOnce}
use Rattle.chaos_table.specs.declared.pages.Pages.{Pages}
use Rattle.chaos_moving.specs.declared.share.Share.{Share}
use Rattle.chaos_remap.specs.declared.place.Remapped.{Remapped}
use Rattle.chaos_moving.specs.declared.moving.Moved.{Moved}
use Rattle.chaos_moving.specs.declared.moving.Moving.{Moving}
use Rattle.chaos_moving.specs.declared.moving.MovingStage.{MovingStage}
use Rattle.chaos_moving.specs.declared.moving.MovingStage.TheVariants as at
use Rattle.chaos_moving.specs.Stages.{regular_place, stage_in, sent_by, stage_after, page_made, later_page}
use Rattle.chaos_moving.specs.IsMoving.{HasShare, HasMap, HasPart, HasMovedTo, IsMap, PageInHand, IsMoving, IsInHand, StandsOnNodes}
use Rattle.chaos_moving.specs.IsMoving.{lists_moved}
use Rattle.chaos_moving.specs.IsMoving.{taken_in}
use Rattle.chaos_dist.specs.declared.step_form.StepForm.{StepForm}
use Rattle.chaos_dist.specs.declared.step_form.StepForm.TheVariants.{Regular, Map}
use Rattle.chaos_moving.specs.Pairs.{map_pairs}
use Rattle.chaos_moving.proofs.PairLaws.{mapped_owned, pairs_sent, spread}
use Rattle.chaos_moving.proofs.PageLaws.{covers_once, counts_sent, page_is}
use Rattle.chaos_moving.proofs.AskLaws.{asks_sent, asks_read, answers_sent, answers_joined}
use Rattle.chaos_moving.proofs.Lists.{length-mapped}
use Rattle.fd_words.specs.Value.{remainder_of}
use Rattle.chaos_moving.proofs.RegularPlaces.{places_are}
use Rattle.chaos_moving.proofs.RemapLetters.{parts_are, remap_sent, remap_placed}

-- ---- the owners of a shape

pub regular_owned : (shape : Shape) (extent nodes : ℕ) → 1 ≤ nodes → All (λ o. o < nodes) (regular_owners shape extent nodes)
regular_owned shape extent nodes some =
    All-map (λ o. o < nodes) (owner_of shape extent nodes) (up_to extent)
    (λ k d h.
    let here : k < extent = subst (λ n. k < n) (length-range_with_len 1 extent) h in
    subst (λ g. owner_of shape extent nodes g < nodes) (sym (get_or-range_with_len 1 extent k d here))
    (owner_of-below shape extent nodes (1 + k) some (omega arith) (omega arith)))

pub regular_places_are : (share : Share) (s : Scene) (owners : List (List ℕ)) (store : List (List ℤ)) (shape : Shape)
    → HasShare share s owners store
    → map (regular_place shape share.extent share.nodes) share.elements
    ≡ map (place_in (regular_owners shape share.extent s.nodes)) (elements_on (list_at owners share.decomposition) share.me)
regular_places_are share s owners store shape has =
    ap (λ n. map (regular_place shape share.extent n) share.elements) has.count
    ∙ ap (map (regular_place shape share.extent s.nodes)) has.mine
    ∙ places_are shape s.nodes (list_at owners share.decomposition) share.me share.extent has.size

-- ---- letters

pub sent_are : (share : Share) (form : StepForm) (page : Option Pages) (m : MovingStage) (s : Scene) (owners : List (List ℕ))
    (store : List (List ℤ)) (new : List ℕ) → HasShare share s owners store
    → length new ≡ share.extent → IsInHand s owners store new share m → PageInHand s.nodes share.me form new page m
    → IfSome (stage_in m) (λ stage. sent_by share page m ≡ lists_moved s owners store share.decomposition new stage share.me)
sent_are share form page (at.Pairing array pairs) s owners store new has size hand paged = hand.0
sent_are share form page (at.Counting pairs) s owners store new has size hand paged = counts_sent share s owners store new pairs has size
    hand
sent_are share form page at.Asking s owners store new has size hand paged = asks_sent share s owners store new has size
sent_are share form page (at.Answering asked) s owners store new has size hand paged = answers_sent share s owners store new has size page
    asked paged.1 hand
sent_are share form page (at.Remapping places) s owners store new has size hand paged = remap_sent share s owners store new has places hand
sent_are share form page (at.Moved part) s owners store new has size hand paged = tt

pub after_is : (share : Share) (m : MovingStage) (s : Scene) (owners : List (List ℕ)) (store : List (List ℤ)) (new : List ℕ)
    (taken : List (List ℤ))
    → HasShare share s owners store → length new ≡ share.extent → All (λ o. o < s.nodes) new → IsInHand s owners store new share m
    → IfSome (stage_in m) (λ stage. taken ≡ taken_in s owners store share.decomposition new stage share.me)
    → IsInHand s owners store new share (stage_after share m taken)
after_is share (at.Pairing array pairs) s owners store new taken has size owned hand is = record {
  some = subst (λ n. 1 ≤ n) has.count share.some_nodes;
  elements = subst (λ n. 1 ≤ n) (sym size) share.some_elements;
  below = owned;
  once = subst (CoversOnce s.nodes share.me new) (sym is) (covers_once s owners new array share.me hand.1);
}
after_is share (at.Counting pairs) s owners store new taken has size owned hand is = tt
after_is share at.Asking s owners store new taken has size owned hand is = asks_read share s owners store new has size taken is
after_is share (at.Answering asked) s owners store new taken has size owned hand is = answers_joined share s owners store new has size
    taken owned is
after_is share (at.Remapping places) s owners store new taken has size owned hand is =
    remap_placed share s owners store new has taken (subst (λ n. share.me < n) has.count share.node) (has.size ∙ sym size) is
after_is share (at.Moved part) s owners store new taken has size owned hand is = hand

-- ---- pages

of_map : (nodes p : ℕ) (form : StepForm) (new : List ℕ) (page : Option Pages) → IsMap form → IsSomeAnd page (IsPageOf nodes p new)
    → HasPage nodes p form new page
of_map nodes p (Regular shape) new page is h = absurd is
of_map nodes p (Map array) new page is h = h

pub page_after : (share : Share) (form : StepForm) (page : Option Pages) (m : MovingStage) (s : Scene) (owners : List (List ℕ))
    (store : List (List ℤ)) (new : List ℕ) (taken : List (List ℤ))
    → HasShare share s owners store → length new ≡ share.extent → IsInHand s owners store new share m
    → PageInHand s.nodes share.me form new page m
    → IfSome (stage_in m) (λ stage. taken ≡ taken_in s owners store share.decomposition new stage share.me)
    → PageInHand s.nodes share.me form new (later_page (page_made share m taken) page) (stage_after share m taken)
page_after share form page (at.Pairing array pairs) s owners store new taken has size hand paged is = paged
page_after share form page (at.Counting pairs) s owners store new taken has size hand paged is =
    (paged, page_is share s owners store new pairs has size hand taken (subst (λ n. share.me < n) has.count share.node) is)
page_after share form page at.Asking s owners store new taken has size hand paged is = paged
page_after share form page (at.Answering asked) s owners store new taken has size hand paged is =
    of_map s.nodes share.me form new page paged.0 paged.1
page_after share form page (at.Remapping places) s owners store new taken has size hand paged is = paged
page_after share form page (at.Moved part) s owners store new taken has size hand paged is = paged

-- ---- the whole

pub moving_sends : (x : Moving) (lists : List (List ℤ)) (s : Scene) (owners : List (List ℕ)) (store : List (List ℤ)) (new : List ℕ)
    → lists ≡ sent_by x.share x.page x.stage
    → IsMoving x s owners store new → IfSome (stage_in x.stage) (λ stage. lists ≡ lists_moved s owners store x.share.decomposition new stage
    x.share.me)
moving_sends x lists s owners store new is h =
    subst (λ (l : List (List ℤ)). IfSome (stage_in x.stage) (λ stage. l ≡ lists_moved s owners store x.share.decomposition new stage
    x.share.me)) (sym is)
    (sent_are x.share x.form x.page x.stage s owners store new h.share h.size h.hand h.page)

-- a move with this share, form, page and stage
abbrev pub moving_of_parts : Share → StepForm → Option Pages → MovingStage → Moving
moving_of_parts share form page m = record { share = share; form = form; page = page; stage = m }

moved_on : (x : Moving) (s : Scene) (owners : List (List ℕ)) (store : List (List ℤ)) (new : List ℕ) (taken : List (List ℤ))
    → IsMoving x s owners store new
    → IfSome (stage_in x.stage) (λ stage. taken ≡ taken_in s owners store x.share.decomposition new stage x.share.me)
    → IsMoving (moving_of_parts x.share x.form (later_page (page_made x.share x.stage taken) x.page) (stage_after x.share x.stage taken))
    s owners store new
moved_on x s owners store new taken h is = record {
  share = h.share;
  size = h.size;
  owned = h.owned;
  page = page_after x.share x.form x.page x.stage s owners store new taken h.share h.size h.hand h.page is;
  hand = after_is x.share x.stage s owners store new taken h.share h.size h.owned h.hand is;
}

pub moving_after : (x y : Moving) (page : Option Pages) (m : MovingStage) (s : Scene) (owners : List (List ℕ)) (store : List (List ℤ))
    (new : List ℕ) (taken : List (List ℤ))
    → page ≡ page_made x.share x.stage taken → m ≡ stage_after x.share x.stage taken → y.share ≡ x.share → y.form ≡ x.form
    → y.page ≡ later_page page x.page → y.stage ≡ m
    → IsMoving x s owners store new → IfSome (stage_in x.stage) (λ stage. taken ≡ taken_in s owners store x.share.decomposition new stage
    x.share.me)
    → IsMoving y s owners store new
moving_after x y page m s owners store new taken made next share form paged staged h is =
    let page_is : y.page ≡ later_page (page_made x.share x.stage taken) x.page = paged ∙ ap (λ o. later_page o x.page) made in
    let stage_is : y.stage ≡ stage_after x.share x.stage taken = staged ∙ next in
    let same : moving_of_parts x.share x.form (later_page (page_made x.share x.stage taken) x.page) (stage_after x.share x.stage taken)
    ≡ y =
    λ i. record { share = sym share i; form = sym form i; page = sym page_is i; stage = sym stage_is i } in
    subst (λ (z : Moving). IsMoving z s owners store new) same (moved_on x s owners store new taken h is)

-- ---- the beginning and the end

pub begun_by_shape : (share : Share) (shape : Shape) (places : List Place) (s : Scene) (owners : List (List ℕ)) (store : List (List ℤ))
    → places ≡ map (regular_place shape share.extent share.nodes) share.elements → HasShare share s owners store
    → IsMoving (moving_of_parts share (Regular shape) None (at.Remapping places)) s owners store (regular_owners shape share.extent s.nodes)
begun_by_shape share shape places s owners store is has = record {
  share = has;
  size = length-regular_owners shape share.extent s.nodes;
  owned = regular_owned shape share.extent s.nodes (subst (λ n. 1 ≤ n) has.count share.some_nodes);
  page = refl;
  hand = is ∙ regular_places_are share s owners store shape has;
}

pub begun_by_map : (share : Share) (array offset : ℕ) (elements values : List ℤ) (pairs : List (List ℤ)) (s : Scene)
    (owners : List (List ℕ)) (store : List (List ℤ))
    → pairs ≡ map_pairs share.extent share.nodes offset elements values → HasShare share s owners store
    → HasMap share s owners store array offset elements values
    → IsMoving (moving_of_parts share (Map array) None (at.Pairing array pairs)) s owners store
    (owners_by_map s.nodes (list_at store array))
begun_by_map share array offset elements values pairs s owners store is has map_is =
    let size : length (owners_by_map s.nodes (list_at store array)) ≡ share.extent = length-mapped (λ (v : ℤ). remainder_of v s.nodes)
    (list_at store array) ∙ map_is.size in
    record {
      share = has;
      size = size;
      owned = mapped_owned s.nodes (list_at store array) (subst (λ n. 1 ≤ n) has.count share.some_nodes);
      page = tt;
      hand = (
        is ∙ pairs_sent share s owners store array offset elements values has map_is,
        subst (StandsOnNodes s owners array) (sym size) (spread share s owners store array offset elements values has map_is),
      );
    }

pub ended : (x : Moving) (part : Remapped) (y : Moved) (s : Scene) (owners : List (List ℕ)) (store : List (List ℤ)) (new : List ℕ)
    → x.stage ≡ at.Moved part
    → y.elements ≡ part.elements → y.pieces ≡ part.pieces → y.page ≡ x.page → IsMoving x s owners store new
    → HasMovedTo y s store x.share.decomposition x.form new x.share.me
ended x part y s owners store new is elements pieces page h =
    let has : HasPart part s store x.share.decomposition new x.share.me = subst (IsInHand s owners store new x.share) is h.hand in
    let paged : HasPage s.nodes x.share.me x.form new x.page = subst (PageInHand s.nodes x.share.me x.form new x.page) is h.page in
    record {
      mine = elements ∙ has.mine;
      parts = λ after e. pieces ∙ has.parts ∙ sym (parts_are s after store x.share.decomposition new x.share.me e);
      page = subst (HasPage s.nodes x.share.me x.form new) (sym page) paged;
    }
