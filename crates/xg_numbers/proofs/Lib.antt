mod AcceptedSums
