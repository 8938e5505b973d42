-- The order in which a step is refused: each order stands here once. The ledger, the calls on bytes and the fabric say
-- for each test what they see and what they answer; the first test that refuses decides.

-- what a step tests before it is made
pub data Test : Type 0 where
  -- that the pair is up
  OfLink : Test
  -- that a number is left to offer, or that the peer's offer has come
  OfOffer : Test
  -- that the side is up, by a check; of a check, that it isn't up yet
  OfCheck : Test
  -- that both speak a version
  OfVersion : Test
  -- that both have as many queues
  OfQueues : Test
  -- that both have as many windows
  OfWindows : Test
  -- that each window of the peer lies in the own memory
  OfSizes : Test
  -- that the queue is ready on the side; of a ready, that it isn't yet
  OfReady : Test
  -- that the queue is ready on the peer's side
  OfPeer : Test
  -- that the queue is joined on the side; of a join, that it isn't yet
  OfJoined : Test
  -- that the queue isn't closed on the side
  OfClosed : Test
  -- that the frame isn't too long
  OfLength : Test
  -- that no frame is under way on the lane
  OfBusy : Test
  -- that the device isn't stopped
  OfDevice : Test
  -- that the ring has room
  OfRoom : Test
  -- that no entry is at hand
  OfPhase : Test

-- a side offers its numbers
abbrev pub in_offer_order : {A : Type 0} → (Test → A → A) → A → A
in_offer_order refuses otherwise = refuses OfLink (refuses OfOffer otherwise)

-- a side checks its peer's numbers
abbrev pub in_check_order : {A : Type 0} → (Test → A → A) → A → A
in_check_order refuses otherwise =
    refuses OfLink (refuses OfCheck (refuses OfOffer (refuses OfVersion (refuses OfQueues (refuses OfWindows (refuses OfSizes otherwise))))))

-- a side says that a queue is ready
abbrev pub in_ready_order : {A : Type 0} → (Test → A → A) → A → A
in_ready_order refuses otherwise = refuses OfLink (refuses OfCheck (refuses OfReady otherwise))

-- a side joins a queue
abbrev pub in_join_order : {A : Type 0} → (Test → A → A) → A → A
in_join_order refuses otherwise = refuses OfLink (refuses OfReady (refuses OfJoined (refuses OfPeer otherwise)))

-- a frame, a device's frame or a link-down entry is begun
abbrev pub in_begin_order : {A : Type 0} → (Test → A → A) → A → A
in_begin_order refuses otherwise =
    refuses OfLink (refuses OfJoined (refuses OfClosed (refuses OfLength (refuses OfBusy (refuses OfDevice (refuses OfRoom otherwise))))))

-- a receiver looks for the next entry
abbrev pub in_look_order : {A : Type 0} → (Test → A → A) → A → A
in_look_order refuses otherwise = refuses OfJoined (refuses OfClosed (refuses OfPhase otherwise))
